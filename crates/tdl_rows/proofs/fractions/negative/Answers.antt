use Rattle.std.proofs.Common.{arith}
use Rattle.std.proofs.lemmas.Int.{ints}
use Rattle.tdl_fraction.proofs.Signs.{negative_is, negative_fits}
use Rattle.tdl_rows.proofs.fractions.negative.Goals as goal

pub fraction-requires-clause-in_range : goal.fraction-requires-clause-in_range
fraction-requires-clause-in_range c = negative_fits _ _ c.args.number
    (omega (arith, ints)) c.denominator.ensures.value c.denominator.ensures.positive c.denominator.ensures.in_range

pub returns : goal.returns
returns c = negative_is _ _ c.args.number c.fraction.result (omega (arith, ints)) c.denominator.ensures.value c.fraction.ensures
