-- A machine that takes the tokens of a line one by one.
--     taken_at    what it does with a token at a stage
--     taken       the state after a further token, or why it stops there; with no tests it reads what the grammar has,
--                 and with tests what is a text too
pub mod States
pub mod Open
pub mod Calls
pub mod Expressions
pub mod Functions
pub mod Arguments
pub mod Settings
pub mod Lists
pub mod Lines
use Rattle.std.specs.Prelude.{Bool}
use Rattle.tdl_line_machine.specs.declared.faults.LineKind.TheVariants.{BadOrbit, BadEvery}
use Rattle.tdl_line_machine.specs.Tokens.{Tok}
use Rattle.tdl_command.specs.Tree as tree
use Rattle.tdl_command.specs.Tree.{no_expr, no_part}
use Rattle.tdl_command.specs.Rules.{is_orbit, is_every}
pub use Rattle.tdl_line_machine.specs.Machine.States.{Spot, CountCall, FunCall, Called, Pending, Bracketed, Hole, Frame, Front, Stage, Core}
pub use Rattle.tdl_line_machine.specs.Machine.States.{first_core, read_on, with_level, with_front, going, refused, first, at_operand, after_dot}
pub use Rattle.tdl_line_machine.specs.Machine.States.{count_of, every_in, cycles_of, cycles_from, hits_of, steps_of, off_hits}
pub use Rattle.tdl_line_machine.specs.Machine.States.{off_steps, off_from, layer_of, every_of, cycle_of, off_of, within_of, wants_count, wants_fun}
pub use Rattle.tdl_line_machine.specs.Machine.States.{made_of, applies, joins, calls, shifts, anything, expr_or_number, fun_or_number, fun_after}
pub use Rattle.tdl_line_machine.specs.Machine.States.{argument, round, section, measure, bounds, bound, setting, constant, list, timecat, unweighed}
pub use Rattle.tdl_line_machine.specs.Machine.States.{weighed, alone, plays, jumps, beginning, flagging, addressed, jumping, jumping_at, jumped, done}
pub use Rattle.tdl_line_machine.specs.Machine.States.{ended, wanting, opening, opened, measured, shifted, expressed, named, chained, keyed, set}
pub use Rattle.tdl_line_machine.specs.Machine.States.{negating, negated, listing, list_open, timing, parts_open, part_wanted, part_read, weighing}
pub use Rattle.tdl_line_machine.specs.Machine.States.{weighted, asking_ratio, asking_count, asking_bools, asking_fun, asking_bounds, bounding, bounded}
pub use Rattle.tdl_line_machine.specs.Machine.States.{fraction, minus, above, slash, closing}
use Rattle.tdl_line_machine.specs.Machine.States.{State, Step}
pub use Rattle.tdl_line_machine.specs.Machine.Open.{round_has_numbers, hole_has_exprs, hole_has_funs, hole_has_numbers, has_exprs, has_funs}
pub use Rattle.tdl_line_machine.specs.Machine.Open.{has_numbers, pushed, opened_to, closed}
pub use Rattle.tdl_line_machine.specs.Machine.Calls.{with_ratio, with_count, with_fun, has_rhythms_with, made, called, in_round, in_hole}
pub use Rattle.tdl_line_machine.specs.Machine.Calls.{may_close_fun}
pub use Rattle.tdl_line_machine.specs.Machine.Expressions.{with_pending, applied, operand_in, operand, round_at, may_begin_ratio, taken_name, wanted_mark}
pub use Rattle.tdl_line_machine.specs.Machine.Expressions.{wanted, section_hole, at_opening, next_hole, list_hole, part_hole, expr_hole, whole_of}
pub use Rattle.tdl_line_machine.specs.Machine.Expressions.{at_end, after_expr}
pub use Rattle.tdl_line_machine.specs.Machine.Functions.{chained_mark, after_fun, after_named, after_shift, measured_mark}
pub use Rattle.tdl_line_machine.specs.Machine.Arguments.{number_closed, above_mark, opened_mark, at_fraction, at_minus, at_slash, at_ratio, at_count}
pub use Rattle.tdl_line_machine.specs.Machine.Arguments.{at_bools, at_argument, bounds_mark, at_bound, bounds_hole, bounded_mark}
pub use Rattle.tdl_line_machine.specs.Machine.Settings.{at_key, at_negating}
pub use Rattle.tdl_line_machine.specs.Machine.Lists.{at_list, parts_hole, part_mark, parts_mark, part_read_mark, at_weight, weighed_hole, weighed_mark}
pub use Rattle.tdl_line_machine.specs.Machine.Lines.{at_beginning, at_whole, dollar_mark, at_addressed, at_done, at_mark, closing_mark, minus_mark}
pub use Rattle.tdl_line_machine.specs.Machine.Lines.{negated_mark, square_mark}

abbrev pub taken_at : Bool → Core → Tok → Stage → Step
taken_at tested c t beginning = at_beginning tested c t
taken_at tested c t (flagging f) = at_whole tested c t BadOrbit is_orbit (λ n. done (tree.flag f n))
taken_at tested c t (addressed o) = at_addressed c t o
taken_at tested c t jumping = at_whole tested c t BadOrbit is_orbit jumping_at
taken_at tested c t (jumping_at n) = at_whole tested c t BadEvery is_every (jumped n)
taken_at tested c t (jumped n every) = at_mark c t (dollar_mark c t (jumps n every))
taken_at tested c t (done l) = at_done c t l
taken_at tested c t (ended w) = refused c t
taken_at tested c t (wanting spot) = wanted tested c t spot
taken_at tested c t opening = at_opening tested c t
taken_at tested c t (opened n at) = at_mark c t (opened_mark tested c t n at)
taken_at tested c t (measured r) = at_mark c t (measured_mark c t r)
taken_at tested c t (shifted r way) = after_shift tested c t r way
taken_at tested c t (expressed e) = after_expr c t e
taken_at tested c t (named f) = after_named tested c t f
taken_at tested c t (chained f) = after_fun c t f
taken_at tested c t (keyed key) = at_key tested c t key
taken_at tested c t set = at_mark c t (minus_mark c t)
taken_at tested c t negating = at_negating tested c t
taken_at tested c t (negated n) = at_mark c t (negated_mark c t n)
taken_at tested c t (listing shape) = at_mark c t (square_mark tested c t (list shape no_expr) list_open)
taken_at tested c t list_open = at_list tested c t
taken_at tested c t timing = at_mark c t (square_mark tested c t (timecat no_part) parts_open)
taken_at tested c t parts_open = at_mark c t (parts_mark tested c t)
taken_at tested c t part_wanted = at_mark c t (part_mark tested c t)
taken_at tested c t part_read = at_mark c t (part_read_mark c t)
taken_at tested c t weighing = at_weight tested c t
taken_at tested c t (weighted n) = at_mark c t (weighed_mark c t n)
taken_at tested c t (asking_ratio spot call) = at_ratio tested c t spot call
taken_at tested c t (asking_count spot call) = at_count tested c t spot call
taken_at tested c t (asking_bools spot f) = at_bools tested c t spot f
taken_at tested c t (asking_fun spot call) = at_argument tested c t spot call
taken_at tested c t (asking_bounds spot) = at_mark c t (bounds_mark tested c t spot)
taken_at tested c t (bounding from) = at_bound tested c t from
taken_at tested c t (bounded from p) = at_mark c t (bounded_mark c t from p)
taken_at tested c t fraction = at_fraction tested c t
taken_at tested c t minus = at_minus tested c t
taken_at tested c t (above negative n at) = at_mark c t (above_mark tested c t negative n at)
taken_at tested c t (slash negative a) = at_slash tested c t negative a
taken_at tested c t (closing p) = at_mark c t (closing_mark c t p)

abbrev pub taken : Bool → State → Tok → Step
taken tested s t = taken_at tested s.core t s.stage
