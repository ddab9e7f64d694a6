-- The tokens of lists.
--     at_list            where an expression of a list begins
--     at_weight          the weight of a part of `timecat`
use Rattle.std.specs.Prelude.{ℕ, Bool}
use Rattle.tdl_mini_tree.specs.declared.leaves.Number.{Number}
use Rattle.tdl_mini_tree.specs.declared.faults.MiniKind.TheVariants.{BadFactor}
use Rattle.tdl_mini_tree.specs.Numbers.{is_weight}
use Rattle.tdl_line_machine.specs.declared.faults.LineKind.TheVariants.{Mini}
use Rattle.tdl_line_machine.specs.declared.marks.Mark.{Mark}
use Rattle.tdl_line_machine.specs.declared.marks.Mark.TheVariants as mark
use Rattle.tdl_line_machine.specs.Tokens.{Tok, number}
use Rattle.tdl_line_machine.specs.Tokens as token
use Rattle.tdl_command.specs.Tree as tree
use Rattle.tdl_line_machine.specs.Machine.States.{Core, Hole, Step, first, going, list, obeying, part_wanted, refused, timecat, unweighed, wanting}
use Rattle.tdl_line_machine.specs.Machine.States.{weighed, weighing, weighted}
use Rattle.tdl_line_machine.specs.Machine.Open.{closed, opened_to, reopened}
use Rattle.tdl_line_machine.specs.Machine.Expressions.{operand, wanted}

abbrev pub empty_hole : Tok → Core → Hole → Step
empty_hole t c (list shape es) = operand c (tree.list shape es)
empty_hole t c _ = refused c t

abbrev pub list_mark : Bool → Core → Tok → Mark → Step
list_mark tested c t mark.CloseSquare = closed c.frames c t (empty_hole t)
list_mark tested c t m = wanted tested c t first

abbrev pub at_list : Bool → Core → Tok → Step
at_list tested c (token.mark m) = list_mark tested c (token.mark m) m
at_list tested c t = wanted tested c t first

abbrev pub parts_hole : Tok → Core → Hole → Step
parts_hole t c (timecat ps) = operand c (tree.timecat ps)
parts_hole t c _ = refused c t

abbrev pub part_mark : Bool → Core → Tok → Mark → Step
part_mark tested c t mark.OpenRound = opened_to tested c unweighed weighing
part_mark tested c t m = refused c t

abbrev pub parts_mark : Bool → Core → Tok → Mark → Step
parts_mark tested c t mark.CloseSquare = closed c.frames c t (parts_hole t)
parts_mark tested c t m = part_mark tested c t m

abbrev pub part_read_mark : Core → Tok → Mark → Step
part_read_mark c t mark.Comma = going c part_wanted
part_read_mark c t mark.CloseSquare = closed c.frames c t (parts_hole t)
part_read_mark c t m = refused c t

abbrev pub at_weight : Bool → Core → Tok → Step
at_weight tested c (number n) = obeying tested c (Mini BadFactor) (is_weight n) (going c (weighted n))
at_weight tested c t = refused c t

abbrev pub weighed_hole : ℕ → Number → Core → Hole → Step
weighed_hole depth n c hole = reopened depth c (weighed n) (wanting first)

abbrev pub weighed_mark : Core → Tok → Number → Mark → Step
weighed_mark c t n mark.Comma = closed c.frames c t (weighed_hole c.depth n)
weighed_mark c t n m = refused c t
