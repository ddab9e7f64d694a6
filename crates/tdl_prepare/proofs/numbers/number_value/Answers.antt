-- The number's value is there.
use Rattle.std.proofs.Common.{sym, subst, ◌∙◌}
use Rattle.std.proofs.lemmas.Bool.{and_parts}
use Rattle.tdl_mini_tree.specs.Numbers.{is_ratio, divides_tail}
use Rattle.tdl_mini_tree.specs.Valid.{is_small}
use Rattle.tdl_rows.specs.Arguments.{HasBoundedParts}
use Rattle.tdl_prepare.proofs.NumberParts.{factor_bounded}
use Rattle.tdl_prepare.proofs.numbers.number_value.Goals as goal

pub unwrap-requires : goal.unwrap-requires
unwrap-requires c =
    let ratio = (and_parts (is_ratio c.args.number) (is_small c.args.number) c.requires).0 in
    c.value.ensures.found ∙ (and_parts _ (divides_tail c.args.number.tail) ratio).1

pub returns-clause-bounded : goal.returns-clause-bounded
returns-clause-bounded c =
    let value = rw c.unwrap.ensures at c.value.ensures.value in
    subst HasBoundedParts (sym value) (factor_bounded c.args.number c.requires)
