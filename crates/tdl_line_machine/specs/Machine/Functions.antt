-- The tokens after a function, after a shift, and after a ratio.
--     after_fun, after_named      after a function
--     after_shift                 after `<~` or `~>`
use Rattle.std.specs.Prelude.{Bool, if◌then◌else◌}
use Rattle.std.specs.Prelude.{◌∷◌}
use Rattle.tdl_line_machine.specs.declared.marks.Mark.{Mark}
use Rattle.tdl_line_machine.specs.declared.marks.Mark.TheVariants as mark
use Rattle.tdl_command.specs.declared.marks.Way.{Way}
use Rattle.tdl_line_machine.specs.Tokens.{Tok}
use Rattle.tdl_line_machine.specs.Tokens as token
use Rattle.tdl_command.specs.Tree as tree
use Rattle.tdl_command.specs.Tree.{Ratio, Fun}
use Rattle.tdl_line_machine.specs.Machine.States.{Core, Pending, Step, after_dot, applies, at_operand, calls, first, going, refused, shifted, shifts}
use Rattle.tdl_line_machine.specs.Machine.States.{wanting, with_level}
use Rattle.tdl_line_machine.specs.Machine.Open.{closed, has_exprs}
use Rattle.tdl_line_machine.specs.Machine.Calls.{fun_closed, in_hole, may_close_fun}
use Rattle.tdl_line_machine.specs.Machine.Expressions.{wanted}

abbrev pub chained_mark : Core → Tok → Fun → Mark → Step
chained_mark c t f mark.Dot = going c (wanting (after_dot f))
chained_mark c t f mark.Dollar = if has_exprs c.frames then going (with_level c (applies f ∷ c.level)) (wanting first) else refused c t
chained_mark c t f mark.CloseRound = fun_closed c t (tree.paren f)
chained_mark c t f m = refused c t

abbrev pub after_fun : Core → Tok → Fun → Step
after_fun c (token.mark m) f = chained_mark c (token.mark m) f m
after_fun c t f = refused c t

-- an operand begins after something that is pending, if one may
abbrev pub pending_before : Bool → Core → Tok → Pending → Step
pending_before tested c t p = if has_exprs c.frames then wanted tested (with_level c (p ∷ c.level)) t at_operand else refused c t

abbrev pub named_mark : Bool → Core → Tok → Fun → Mark → Step
named_mark tested c t f mark.Dot = chained_mark c t f mark.Dot
named_mark tested c t f mark.Dollar = chained_mark c t f mark.Dollar
named_mark tested c t f mark.CloseRound = chained_mark c t f mark.CloseRound
named_mark tested c t f m = pending_before tested c t (calls f)

abbrev pub after_named : Bool → Core → Tok → Fun → Step
after_named tested c (token.mark m) f = named_mark tested c (token.mark m) f m
after_named tested c t f = pending_before tested c t (calls f)

abbrev pub shifted_mark : Bool → Core → Tok → Ratio → Way → Mark → Step
shifted_mark tested c t r way mark.CloseRound =
    if may_close_fun c then closed c.frames c t (in_hole t (tree.shift r way)) else pending_before tested c t (shifts r way)
shifted_mark tested c t r way m = pending_before tested c t (shifts r way)

abbrev pub after_shift : Bool → Core → Tok → Ratio → Way → Step
after_shift tested c (token.mark m) r way = shifted_mark tested c (token.mark m) r way m
after_shift tested c t r way = pending_before tested c t (shifts r way)

abbrev pub measured_mark : Core → Tok → Ratio → Mark → Step
measured_mark c t r (mark.Shift way) = going c (shifted r way)
measured_mark c t r m = refused c t
