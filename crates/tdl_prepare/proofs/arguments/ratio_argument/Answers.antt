use Rattle.std.proofs.Common.{ap, sym, subst, ◌∙◌}
use Rattle.tdl_expr.specs.declared.args.Arg.TheVariants.{Plain}
use Rattle.tdl_command.specs.declared.tree.Ratio.{Ratio}
use Rattle.tdl_prepare.specs.Numbers.{plain_value, ratio_built}
use Rattle.tdl_command.specs.View.{ratio_of}
use Rattle.tdl_prepare.specs.inside.Views.{LowersNumber}
use Rattle.tdl_rows.specs.Arguments.{HasBoundedParts}
use Rattle.tdl_prepare.proofs.ArgumentTexts.{ratio_lowered}
use Rattle.tdl_prepare.proofs.NumberParts.{plain_number}
use Rattle.tdl_prepare.proofs.arguments.ratio_argument.Goals as goal

pub returns-in-Plain : goal.returns-in-Plain
returns-in-Plain c =
    let P : Ratio → Type 0 = λ r. LowersNumber c.args.table.now c.args.table.now (ratio_built (ratio_of r)) (Plain c.plain_value.result) in
    let value = c.plain_value.ensures.value ∙ ap plain_value c.deref.ensures in
    let bounded = subst HasBoundedParts value c.plain_value.ensures.bounded in
    subst P (sym c.in-Plain.is) (plain_number c.args.table.now c.plain_value.result (plain_value c.in-Plain.plain.value) value bounded)

pub returns-in-Text : goal.returns-in-Text
returns-in-Text c =
    ratio_lowered _ _ c.in-Text.tree c.lower_arg.result (rw c.deref-in-Text.ensures at c.lower_arg.ensures.lowered)
    (rw c.deref-in-Text.ensures at c.lower_arg.ensures.bounded) c.args.ratio.now c.in-Text.is
