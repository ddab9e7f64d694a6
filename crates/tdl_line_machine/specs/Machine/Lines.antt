-- The tokens of lines.
--     at_beginning       the first token
--     at_addressed       after `dK`
--     at_done            at the end
--     at_mark            where a mark alone may stand
use Rattle.std.specs.Prelude.{ℕ, Bool, is_some, if◌then◌else◌, Option}
use Rattle.tdl_mini_tree.specs.declared.leaves.Number.{Number}
use Rattle.tdl_line_machine.specs.declared.faults.LineKind.{LineKind}
use Rattle.tdl_line_machine.specs.declared.faults.LineKind.TheVariants.{BadOrbit}
use Rattle.tdl_line_machine.specs.declared.names.Name.{Name}
use Rattle.tdl_line_machine.specs.declared.names.Name.TheVariants as name
use Rattle.tdl_line_machine.specs.declared.marks.Mark.{Mark}
use Rattle.tdl_line_machine.specs.declared.marks.Mark.TheVariants as mark
use Rattle.tdl_command.specs.declared.tree.Plain.{Plain}
use Rattle.tdl_line_machine.specs.Tokens.{Tok, number, end}
use Rattle.tdl_line_machine.specs.Tokens as token
use Rattle.tdl_command.specs.Tree as tree
use Rattle.tdl_command.specs.Tree.{Line}
use Rattle.tdl_line_machine.specs.Machine.States.{Core, Front, Hole, Stage, Step, addressed, done, ended, first, flagging, going, jumping, negating}
use Rattle.tdl_line_machine.specs.Machine.States.{obeying, plays, refused, wanting, with_front}
use Rattle.tdl_line_machine.specs.Machine.Open.{closed, opened_to}
use Rattle.tdl_line_machine.specs.Machine.Arguments.{is_unsigned, number_closed}
use Rattle.tdl_line_machine.specs.Machine.Settings.{setting_hole}

abbrev pub beginning_name : Bool → Core → Tok → Name → Step
beginning_name tested c t (name.Order o) = going c (done (tree.order o))
beginning_name tested c t (name.Flag f) = going c (flagging f)
beginning_name tested c t name.JumpMod = going c jumping
beginning_name tested c t (name.Orbit o) = obeying tested c BadOrbit (is_some o) (going c (addressed o))
beginning_name tested c t n = refused c t

abbrev pub at_beginning : Bool → Core → Tok → Step
at_beginning tested c (token.name n) = beginning_name tested c (token.name n) n
at_beginning tested c end = going c (ended (tree.line tree.nothing))
at_beginning tested c t = refused c t

-- a whole number by a rule
abbrev pub at_whole : Bool → Core → Tok → LineKind → (ℕ → Bool) → (ℕ → Stage) → Step
at_whole tested c (number n) kind holds next = if is_unsigned n then obeying tested c kind (holds n.whole) (going c (next n.whole)) else refused c (number n)
at_whole tested c t kind holds next = refused c t

abbrev pub dollar_mark : Core → Tok → Front → Mark → Step
dollar_mark c t front mark.Dollar = going (with_front c front) (wanting first)
dollar_mark c t front m = refused c t

abbrev pub addressed_name : Core → Tok → Option ℕ → Name → Step
addressed_name c t o name.Silence = going c (done (tree.still o))
addressed_name c t o n = refused c t

abbrev pub at_addressed : Core → Tok → Option ℕ → Step
at_addressed c (token.name n) o = addressed_name c (token.name n) o n
at_addressed c (token.mark m) o = dollar_mark c (token.mark m) (plays o) m
at_addressed c t o = refused c t

abbrev pub at_done : Core → Tok → Line → Step
at_done c end l = going c (ended (tree.line l))
at_done c t l = refused c t

-- a mark, or nothing goes on
abbrev pub at_mark : Core → Tok → (Mark → Step) → Step
at_mark c (token.mark m) next = next m
at_mark c t next = refused c t

abbrev pub closing_mark : Core → Tok → Plain → Mark → Step
closing_mark c t p mark.CloseRound = number_closed c t p
closing_mark c t p m = refused c t

abbrev pub minus_mark : Core → Tok → Mark → Step
minus_mark c t mark.Minus = going c negating
minus_mark c t m = refused c t

abbrev pub negated_mark : Core → Tok → Number → Mark → Step
negated_mark c t n mark.CloseRound = closed c.frames c t (setting_hole t n)
negated_mark c t n m = refused c t

abbrev pub square_mark : Bool → Core → Tok → Hole → Stage → Mark → Step
square_mark tested c t hole p mark.OpenSquare = opened_to tested c hole p
square_mark tested c t hole p m = refused c t
