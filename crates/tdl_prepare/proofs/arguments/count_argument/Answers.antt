use Rattle.std.proofs.Common.{◌≤◌, ap, sym, subst, ◌∙◌, arith}
use Rattle.std.proofs.lemmas.Int.{ints}
use Rattle.tdl_fraction.specs.Rational.{whole}
use Rattle.tdl_expr.specs.declared.args.Arg.TheVariants.{Plain}
use Rattle.tdl_command.specs.declared.tree.Count.{Count}
use Rattle.tdl_prepare.specs.Numbers.{count_built}
use Rattle.tdl_command.specs.Valid.{IsValidCount}
use Rattle.tdl_command.specs.View.{count_of}
use Rattle.tdl_prepare.specs.inside.Views.{LowersNumber}
use Rattle.tdl_prepare.proofs.ArgumentTexts.{count_lowered}
use Rattle.tdl_prepare.proofs.NumberParts.{count_whole}
use Rattle.tdl_prepare.proofs.arguments.count_argument.Goals as goal

pub returns-in-Whole : goal.returns-in-Whole
returns-in-Whole c =
    let P : Count → Type 0 = λ n. LowersNumber c.args.table.now c.args.table.now (count_built (count_of n)) (Plain c.whole.result) in
    let few : c.in-Whole.number ≤ 65535 = subst IsValidCount c.in-Whole.is c.requires in
    subst P (sym c.in-Whole.is)
    (count_whole c.args.table.now c.in-Whole.number c.whole.result few (c.whole.ensures ∙ ap whole (omega (arith, ints, c.from.ensures, few))))

pub returns-in-Text : goal.returns-in-Text
returns-in-Text c =
    count_lowered _ _ c.in-Text.tree c.lower_arg.result (rw c.deref.ensures at c.lower_arg.ensures.lowered)
    (rw c.deref.ensures at c.lower_arg.ensures.bounded) c.args.count.now c.in-Text.is
