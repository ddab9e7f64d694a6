use Rattle.std.proofs.Common.{◌≡◌, sym, subst, arith}
use Rattle.std.proofs.lemmas.Int.{ints}
use Rattle.tdl_fraction.specs.Rational.{frac}
use Rattle.tdl_mini_tree.specs.Values.{integer_of}
use Rattle.tdl_rows.specs.Arguments.{HasBoundedParts}
use Rattle.tdl_prepare.proofs.NumberParts.{below_positive, quotient_bounded, quotient_in_range, quotient_value}
use Rattle.tdl_prepare.proofs.numbers.quotient.Goals as goal

pub fraction-requires-clause-positive : goal.fraction-requires-clause-positive
fraction-requires-clause-positive c = omega (arith, ints, c.from-2.ensures, below_positive c.args.below c.requires.below)

pub fraction-requires-clause-in_range : goal.fraction-requires-clause-in_range
fraction-requires-clause-in_range c =
    quotient_in_range _ _ c.args.above c.args.below c.requires.above c.requires.below (omega (arith, ints, c.from.ensures, c.integer.ensures.value))
    (omega (arith, ints, c.from-2.ensures))

pub returns-clause-value : goal.returns-clause-value
returns-clause-value c =
    quotient_value _ _ c.args.above c.args.below c.fraction.result (omega (arith, ints, c.from.ensures, c.integer.ensures.value))
    (omega (arith, ints, c.from-2.ensures)) c.fraction.ensures

pub returns-clause-bounded : goal.returns-clause-bounded
returns-clause-bounded c =
    let value : c.fraction.result ≡ frac (integer_of c.args.above) c.args.below.whole =
    quotient_value _ _ c.args.above c.args.below c.fraction.result (omega (arith, ints, c.from.ensures, c.integer.ensures.value))
    (omega (arith, ints, c.from-2.ensures)) c.fraction.ensures in
    subst HasBoundedParts (sym value) (quotient_bounded c.args.above c.args.below c.requires.above c.requires.below)
