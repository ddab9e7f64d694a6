-- The number's value is there, and it is a rate.
use Rattle.std.proofs.Common.{IsTrue, sym, subst, ◌∙◌}
use Rattle.std.proofs.lemmas.Bool.{and_parts}
use Rattle.tdl_fraction.specs.Rational.{Rational}
use Rattle.tdl_mini_tree.specs.Numbers.{is_ratio, divides_tail}
use Rattle.tdl_mini_tree.specs.Valid.{is_small}
use Rattle.tdl_mini_rows.specs.inside.Bounds.{is_rate}
use Rattle.tdl_mini_rows.proofs.NumberRates.{factor_rate}
use Rattle.tdl_mini_rows.proofs.numbers.number_value.Goals as goal

pub unwrap-requires : goal.unwrap-requires
unwrap-requires c =
    let ratio = (and_parts (is_ratio c.args.number) (is_small c.args.number) c.requires).0 in
    c.value.ensures.found ∙ (and_parts _ (divides_tail c.args.number.tail) ratio).1

pub returns-clause-rate : goal.returns-clause-rate
returns-clause-rate c =
    let P : Rational → Type 0 = λ r. IsTrue (is_rate r) in
    let value = rw c.unwrap.ensures at c.value.ensures.value in
    subst P (sym value) (factor_rate c.args.number c.requires)
