-- The tokens of expressions.
--     with_pending, applied, operand    what is pending takes an operand
--     wanted                      where an expression, an operand or a function begins
--     at_opening                  directly after a `(`
--     after_expr                  after an operand
use Rattle.std.specs.Prelude.{ℕ, Bool, true, false, ◌&&◌, if◌then◌else◌, List}
use Rattle.std.specs.Prelude.{[], ◌∷◌}
use Rattle.tdl_mini_tree.specs.declared.leaves.Kind.TheVariants.{Ratio as Ratios}
use Rattle.tdl_mini_tree.specs.declared.leaves.Number.{Number}
use Rattle.tdl_line_machine.specs.declared.names.Name.{Name}
use Rattle.tdl_line_machine.specs.declared.names.Name.TheVariants as name
use Rattle.tdl_line_machine.specs.declared.marks.Mark.{Mark}
use Rattle.tdl_line_machine.specs.declared.marks.Mark.TheVariants as mark
use Rattle.tdl_command.specs.declared.marks.Operator.{Operator}
use Rattle.tdl_command.specs.declared.tree.Plain.TheVariants.{Bare}
use Rattle.tdl_line_machine.specs.Tokens.{Tok, number, quoted, end}
use Rattle.tdl_line_machine.specs.Tokens as token
use Rattle.tdl_command.specs.Tree as tree
use Rattle.tdl_command.specs.Tree.{Expr, further, part, Whole}
use Rattle.tdl_line_machine.specs.Machine.States.{Core, Frame, Front, Hole, Pending, Bracketed, Spot, Step, after_dot, alone, anything, applies}
use Rattle.tdl_line_machine.specs.Machine.States.{asking_bools, asking_bounds, asking_count, asking_fun, asking_ratio, at_operand, calls, constant}
use Rattle.tdl_line_machine.specs.Machine.States.{count_of, cycles_of, ended, every_in, expr_or_number, expressed, first, fitting, fun_after}
use Rattle.tdl_line_machine.specs.Machine.States.{fun_or_number, going, hits_of, joins, jumps, keyed, layer_of, list, listing, measured, minus}
use Rattle.tdl_line_machine.specs.Machine.States.{off_hits, opened, opening, part_read, plays, reading, refused, round, section}
use Rattle.tdl_line_machine.specs.Machine.States.{shifts, timecat, timing, wanting, weighed, with_level}
use Rattle.tdl_line_machine.specs.Machine.Open.{closed, has_exprs, has_funs, has_numbers, opened_to, popped, pushed, reopened}
use Rattle.tdl_line_machine.specs.Machine.Calls.{in_round, made}
use Rattle.tdl_line_machine.specs.declared.calls.RatioCall.TheVariants as ratio_call

pub record WithPending : Type 0 where
  pub level : List Pending
  pub expr : Expr

-- the expression in which an operand stands with what is pending before it, up to a `$`
abbrev pub with_pending : List Pending → Expr → WithPending
with_pending [] e = record { level = []; expr = e }
with_pending (applies f ∷ level) e = record { level = applies f ∷ level; expr = e }
with_pending (joins a operator ∷ level) e = record { level = level; expr = tree.joined a operator e }
with_pending (calls f ∷ level) e = with_pending level (tree.called f e)
with_pending (shifts r way ∷ level) e = with_pending level (tree.shifted r way e)

-- the whole expression, with the functions that are pending before it
abbrev pub applied : List Pending → Expr → Expr
applied [] e = e
applied (applies f ∷ level) e = applied level (tree.applied f e)
applied (joins a operator ∷ level) e = applied level e
applied (calls f ∷ level) e = applied level e
applied (shifts r way ∷ level) e = applied level e

abbrev pub operand_hole : Core → Frame → List Frame → Expr → Hole → Step
operand_hole c f frames e (constant spot) = made (popped c f frames) spot (tree.const e)
operand_hole c f frames e _ = going c (expressed e)

abbrev pub operand_in : Core → List Frame → Expr → Step
operand_in c [] e = going c (expressed e)
operand_in c (f ∷ frames) e = operand_hole c f frames e f.hole

-- an operand is whole
abbrev pub operand : Core → Expr → Step
operand c e = operand_in (with_level c (with_pending c.level e).level) c.frames (with_pending c.level e).expr

-- what may stand in a round bracket that opens at a spot
abbrev pub round_at : Core → Spot → Bracketed
round_at c first = if has_exprs c.frames then anything else fun_or_number
round_at c at_operand = expr_or_number
round_at c (after_dot g) = fun_after g

abbrev pub may_begin_ratio : Spot → Bool
may_begin_ratio first = true
may_begin_ratio at_operand = true
may_begin_ratio (after_dot g) = false

abbrev pub may_begin_operand : Core → Spot → Bool
may_begin_operand c spot = may_begin_ratio spot && has_exprs c.frames

abbrev pub taken_name : Core → Tok → Spot → Name → Step
taken_name c t spot name.Silence = if may_begin_operand c spot then operand c tree.silence else refused c t
taken_name c t spot (name.Key key) = if may_begin_operand c spot then going c (keyed key) else refused c t
taken_name c t spot (name.List shape) = if may_begin_operand c spot then going c (listing shape) else refused c t
taken_name c t spot name.Timecat = if may_begin_operand c spot then going c timing else refused c t
taken_name c t spot (name.Bare f) = made c spot (tree.bare f)
taken_name c t spot (name.OfRatio f) = going c (asking_ratio spot (ratio_call.Of f))
taken_name c t spot name.Off = going c (asking_ratio spot ratio_call.Off)
taken_name c t spot (name.OfCount f) = going c (asking_count spot (count_of f))
taken_name c t spot name.Every = going c (asking_count spot every_in)
taken_name c t spot (name.Cycle g) = going c (asking_count spot (cycles_of g))
taken_name c t spot name.Euclid = going c (asking_count spot hits_of)
taken_name c t spot name.EuclidOff = going c (asking_count spot off_hits)
taken_name c t spot (name.OfBools f) = going c (asking_bools spot f)
taken_name c t spot (name.Layer g) = going c (asking_fun spot (layer_of g))
taken_name c t spot name.Within = going c (asking_bounds spot)
taken_name c t spot name.Const = going (pushed c (constant spot) c.depth) (wanting at_operand)
taken_name c t spot _ = refused c t

abbrev pub wanted_mark : Bool → Core → Tok → Spot → Mark → Step
wanted_mark tested c t spot mark.OpenRound = opened_to tested c (round (round_at c spot)) opening
wanted_mark tested c t spot _ = refused c t

-- something begins at a spot
abbrev pub wanted : Bool → Core → Tok → Spot → Step
wanted tested c (number n) spot = if may_begin_ratio spot then fitting tested c n (going c (measured (tree.plain (Bare n)))) else refused c (number n)
wanted tested c (token.name n) spot = taken_name c (token.name n) spot n
wanted tested c (quoted readings) spot =
    if may_begin_ratio spot then reading tested c (readings Ratios) (going c (measured (tree.measured (readings Ratios)))) else refused c (quoted readings)
wanted tested c (token.mark m) spot = wanted_mark tested c (token.mark m) spot m
wanted tested c end spot = refused c end

abbrev pub section_hole : Tok → ℕ → Operator → Core → Hole → Step
section_hole t depth operator c (round r) = reopened depth c (section r operator) (wanting at_operand)
section_hole t depth operator c _ = refused c t

abbrev pub opening_mark : Bool → Core → Tok → Mark → Step
opening_mark tested c t mark.Minus = if has_numbers c.frames then going c minus else refused c t
opening_mark tested c t (mark.Operator operator) = if has_funs c.frames then closed c.frames c t (section_hole t c.depth operator) else refused c t
opening_mark tested c t m = wanted tested c t first

-- directly after a `(`
abbrev pub at_opening : Bool → Core → Tok → Step
at_opening tested c (number n) = fitting tested c n (going c (opened n c.read))
at_opening tested c (token.name n) = wanted tested c (token.name n) first
at_opening tested c (quoted readings) = wanted tested c (quoted readings) first
at_opening tested c (token.mark m) = opening_mark tested c (token.mark m) m
at_opening tested c end = wanted tested c end first

-- ---- after an expression
abbrev pub next_hole : Tok → ℕ → Expr → Core → Hole → Step
next_hole t depth e c (list shape es) = reopened depth c (list shape (further es e)) (wanting first)
next_hole t depth e c _ = refused c t

abbrev pub list_hole : Tok → Expr → Core → Hole → Step
list_hole t e c (list shape es) = operand c (tree.list shape (further es e))
list_hole t e c _ = refused c t

abbrev pub part_hole : Tok → ℕ → Number → Expr → Core → Hole → Step
part_hole t depth n e c (timecat ps) = reopened depth c (timecat (part ps n e)) part_read
part_hole t depth n e c _ = refused c t

abbrev pub expr_hole : Tok → Expr → Core → Hole → Step
expr_hole t e c (round anything) = operand c (tree.inside e)
expr_hole t e c (round expr_or_number) = operand c (tree.inside e)
expr_hole t e c (section r operator) = in_round c t r (tree.section operator e)
expr_hole t e c (weighed n) = closed c.frames c t (part_hole t c.depth n e)
expr_hole t e c _ = refused c t

-- what is read once an expression at the top is whole
abbrev pub whole_of : Front → Expr → Whole
whole_of alone e = tree.pattern e
whole_of (plays o) e = tree.line (tree.play o e)
whole_of (jumps n every) e = tree.line (tree.jump n every e)

abbrev pub at_end : Core → Tok → List Frame → Expr → Step
at_end c t [] e = going (with_level c []) (ended (whole_of c.front e))
at_end c t (f ∷ frames) e = refused c t

abbrev pub expressed_mark : Core → Tok → Expr → Mark → Step
expressed_mark c t e (mark.Operator operator) = going (with_level c (joins e operator ∷ c.level)) (wanting at_operand)
expressed_mark c t e mark.CloseRound = closed c.frames c t (expr_hole t (applied c.level e))
expressed_mark c t e mark.CloseSquare = closed c.frames c t (list_hole t (applied c.level e))
expressed_mark c t e mark.Comma = closed c.frames c t (next_hole t c.depth (applied c.level e))
expressed_mark c t e m = refused c t

abbrev pub after_expr : Core → Tok → Expr → Step
after_expr c (number n) e = refused c (number n)
after_expr c (token.name n) e = refused c (token.name n)
after_expr c (quoted readings) e = refused c (quoted readings)
after_expr c (token.mark m) e = expressed_mark c (token.mark m) e m
after_expr c end e = at_end c end c.frames (applied c.level e)
