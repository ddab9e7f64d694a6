-- The tokens after a key.
--     at_key, at_negating    after the key, and after the `-` of its number
use Rattle.std.specs.Prelude.{Bool, ◌&&◌, if◌then◌else◌}
use Rattle.tdl_control.specs.declared.keys.Key.{Key}
use Rattle.tdl_control.specs.Key.{takes_word}
use Rattle.tdl_mini_tree.specs.declared.leaves.Number.{Number}
use Rattle.tdl_mini_tree.specs.declared.faults.MiniKind.TheVariants.{FloatValue}
use Rattle.tdl_mini_tree.specs.Numbers.{is_whole}
use Rattle.tdl_line_machine.specs.declared.faults.LineKind.TheVariants.{Mini}
use Rattle.tdl_line_machine.specs.declared.marks.Mark.{Mark}
use Rattle.tdl_line_machine.specs.declared.marks.Mark.TheVariants as mark
use Rattle.tdl_line_machine.specs.Tokens.{Tok, number, quoted, end}
use Rattle.tdl_line_machine.specs.Tokens as token
use Rattle.tdl_command.specs.Tree as tree
use Rattle.tdl_command.specs.Rules.{kind_of}
use Rattle.tdl_line_machine.specs.Machine.States.{Core, Hole, Step, going, negated, obeying, reading, refused, set, setting}
use Rattle.tdl_line_machine.specs.Machine.Open.{opened_to}
use Rattle.tdl_line_machine.specs.Machine.Expressions.{operand}

abbrev pub setting_mark : Bool → Core → Tok → Key → Mark → Step
setting_mark tested c t key mark.OpenRound = if takes_word key then refused c t else opened_to tested c (setting key) set
setting_mark tested c t key m = refused c t

abbrev pub at_key : Bool → Core → Tok → Key → Step
at_key tested c (number n) key =
    if takes_word key && is_whole n then refused c (number n)
    else obeying tested c (Mini FloatValue) (is_whole n) (operand c (tree.control key (tree.numeral n)))
at_key tested c (token.name n) key = refused c (token.name n)
at_key tested c (quoted readings) key =
    reading tested c (readings (kind_of key)) (operand c (tree.control key (tree.quoted (readings (kind_of key)))))
at_key tested c (token.mark m) key = setting_mark tested c (token.mark m) key m
at_key tested c end key = refused c end

abbrev pub at_negating : Bool → Core → Tok → Step
at_negating tested c (number n) = obeying tested c (Mini FloatValue) (is_whole n) (going c (negated n))
at_negating tested c t = refused c t

abbrev pub setting_hole : Tok → Number → Core → Hole → Step
setting_hole t n c (setting key) = operand c (tree.control key (tree.negative n))
setting_hole t n c _ = refused c t
