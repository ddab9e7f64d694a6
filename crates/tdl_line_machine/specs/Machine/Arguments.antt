-- The tokens of arguments, and of numbers in round brackets.
--     at_fraction, at_minus, at_slash    in a bracket with a number
--     at_ratio, at_count, at_bools, at_argument, at_bound    where an argument is wanted
use Rattle.std.specs.Prelude.{ℕ, suc, Bool, true, false, not, ◌&&◌, if◌then◌else◌, Option, Some, None}
use Rattle.tdl_grammar.specs.Grammar.{Test}
use Rattle.tdl_grammar.specs.Machine.{checked}
use Rattle.tdl_mini_tree.specs.declared.leaves.Kind.TheVariants.{Bool as Truths, Count as Counts, Ratio as Ratios}
use Rattle.tdl_mini_tree.specs.declared.leaves.Number.{Number}
use Rattle.tdl_mini_tree.specs.declared.faults.MiniKind.TheVariants.{BadFactor, BadEuclid}
use Rattle.tdl_mini_tree.specs.Numbers.{is_whole}
use Rattle.tdl_line_machine.specs.declared.faults.LineKind.{LineKind}
use Rattle.tdl_line_machine.specs.declared.faults.LineKind.TheVariants.{Mini}
use Rattle.tdl_line_machine.specs.declared.names.Name.{Name}
use Rattle.tdl_line_machine.specs.declared.names.Name.TheVariants as name
use Rattle.tdl_command.specs.declared.names.BoolsFun.{BoolsFun}
use Rattle.tdl_line_machine.specs.declared.marks.Mark.{Mark}
use Rattle.tdl_line_machine.specs.declared.marks.Mark.TheVariants as mark
use Rattle.tdl_command.specs.declared.tree.Plain.{Plain}
use Rattle.tdl_command.specs.declared.tree.Plain.TheVariants.{Bare, Signed, Quotient}
use Rattle.tdl_line_machine.specs.Tokens.{Tok, number, quoted, end}
use Rattle.tdl_line_machine.specs.Tokens as token
use Rattle.tdl_command.specs.Tree as tree
use Rattle.tdl_command.specs.Tree.{Count}
use Rattle.tdl_command.specs.Rules.{is_below}
use Rattle.tdl_line_machine.specs.Pieces.{Place}
use Rattle.tdl_line_machine.specs.Machine.States.{Core, CountCall, FunCall, Hole, Spot, Step, above, anything, argument, asking_fun, bound}
use Rattle.tdl_line_machine.specs.Machine.States.{bounded, bounding, bounds, closing, expr_or_number, fitting, fraction, fun_or_number, going, measure}
use Rattle.tdl_line_machine.specs.Machine.States.{measured, minus, obeying, opening, reading, refused, round, shifted, slash, within_of}
use Rattle.tdl_line_machine.specs.Machine.Open.{closed, has_numbers, opened_to}
use Rattle.tdl_line_machine.specs.Machine.Calls.{called, has_rhythms_with, made, with_count, with_fun, with_ratio}
use Rattle.tdl_line_machine.specs.declared.calls.RatioCall.{RatioCall}

abbrev pub number_hole : Tok → Plain → Core → Hole → Step
number_hole t p c (round anything) = going c (measured (tree.plain p))
number_hole t p c (round expr_or_number) = going c (measured (tree.plain p))
number_hole t p c (round fun_or_number) = going c (measured (tree.plain p))
number_hole t p c (measure spot call) = called c spot (with_ratio call (tree.plain p))
number_hole t p c (bound from) = going c (bounded from p)
number_hole t p c _ = refused c t

abbrev pub number_closed : Core → Tok → Plain → Step
number_closed c t p = closed c.frames c t (number_hole t p)

-- the number above a `/` is whole; it stands at this token, and the test is made at the `/`
abbrev pub above_test : Core → ℕ → Number → Test LineKind Place
above_test c at n = record { kind = Mini BadFactor; at = record { token = at; offset = 0 }; ends = suc c.read; waits = false; holds = is_whole n }

abbrev pub above_mark : Bool → Core → Tok → Bool → Number → ℕ → Mark → Step
above_mark tested c t negative n at mark.CloseRound = number_closed c t (Signed negative n)
above_mark tested c t negative n at mark.Slash = checked tested (above_test c at n) (going c (slash negative n))
above_mark tested c t negative n at m = refused c t

abbrev pub opened_mark : Bool → Core → Tok → Number → ℕ → Mark → Step
opened_mark tested c t n at (mark.Shift way) = going c (shifted (tree.plain (Bare n)) way)
opened_mark tested c t n at m = if has_numbers c.frames then above_mark tested c t false n at m else refused c t

abbrev pub fraction_mark : Core → Tok → Mark → Step
fraction_mark c t mark.Minus = going c minus
fraction_mark c t m = refused c t

abbrev pub at_fraction : Bool → Core → Tok → Step
at_fraction tested c (number n) = fitting tested c n (going c (above false n c.read))
at_fraction tested c (token.mark m) = fraction_mark c (token.mark m) m
at_fraction tested c t = refused c t

abbrev pub at_minus : Bool → Core → Tok → Step
at_minus tested c (number n) = fitting tested c n (going c (above true n c.read))
at_minus tested c t = refused c t

abbrev pub at_slash : Bool → Core → Tok → Bool → Number → Step
at_slash tested c (number b) negative a = obeying tested c (Mini BadFactor) (is_below b) (going c (closing (Quotient negative a b)))
at_slash tested c t negative a = refused c t

-- ---- arguments
abbrev pub ratio_mark : Bool → Core → Tok → Spot → RatioCall → Mark → Step
ratio_mark tested c t spot call mark.OpenRound = opened_to tested c (measure spot call) fraction
ratio_mark tested c t spot call m = refused c t

abbrev pub at_ratio : Bool → Core → Tok → Spot → RatioCall → Step
at_ratio tested c (number n) spot call = fitting tested c n (called c spot (with_ratio call (tree.plain (Bare n))))
at_ratio tested c (token.name n) spot call = refused c (token.name n)
at_ratio tested c (quoted readings) spot call =
    reading tested c (readings Ratios) (called c spot (with_ratio call (tree.measured (readings Ratios))))
at_ratio tested c (token.mark m) spot call = ratio_mark tested c (token.mark m) spot call m
at_ratio tested c end spot call = refused c end

-- a whole number without sign
abbrev pub is_unsigned : Number → Bool
is_unsigned n = not n.is_negative && is_whole n

-- a count that is read, after the rules on it alone
abbrev pub counted : Bool → Core → Spot → CountCall → Count → Step
counted tested c spot call n = obeying tested c (Mini BadEuclid) (has_rhythms_with call n) (called c spot (with_count call n))

abbrev pub at_count : Bool → Core → Tok → Spot → CountCall → Step
at_count tested c (number n) spot call =
    if is_unsigned n then fitting tested c n (counted tested c spot call (tree.whole n.whole)) else refused c (number n)
at_count tested c (quoted readings) spot call = reading tested c (readings Counts) (counted tested c spot call (tree.counted (readings Counts)))
at_count tested c t spot call = refused c t

abbrev pub at_bools : Bool → Core → Tok → Spot → BoolsFun → Step
at_bools tested c (quoted readings) spot f = reading tested c (readings Truths) (made c spot (tree.of_bools f (readings Truths)))
at_bools tested c t spot f = refused c t

abbrev pub argument_name : Core → Tok → Spot → FunCall → Name → Step
argument_name c t spot call (name.Bare f) = made c spot (with_fun call (tree.bare f))
argument_name c t spot call n = refused c t

abbrev pub argument_mark : Bool → Core → Tok → Spot → FunCall → Mark → Step
argument_mark tested c t spot call mark.OpenRound = opened_to tested c (round (argument spot call)) opening
argument_mark tested c t spot call m = refused c t

abbrev pub at_argument : Bool → Core → Tok → Spot → FunCall → Step
at_argument tested c (token.name n) spot call = argument_name c (token.name n) spot call n
at_argument tested c (token.mark m) spot call = argument_mark tested c (token.mark m) spot call m
at_argument tested c t spot call = refused c t

abbrev pub bounds_mark : Bool → Core → Tok → Spot → Mark → Step
bounds_mark tested c t spot mark.OpenRound = opened_to tested c (bounds spot) (bounding None)
bounds_mark tested c t spot m = refused c t

abbrev pub bounding_mark : Bool → Core → Tok → Option Plain → Mark → Step
bounding_mark tested c t from mark.OpenRound = opened_to tested c (bound from) fraction
bounding_mark tested c t from m = refused c t

abbrev pub at_bound : Bool → Core → Tok → Option Plain → Step
at_bound tested c (number n) from = fitting tested c n (going c (bounded from (Bare n)))
at_bound tested c (token.mark m) from = bounding_mark tested c (token.mark m) from m
at_bound tested c t from = refused c t

abbrev pub bounds_hole : Tok → Plain → Plain → Core → Hole → Step
bounds_hole t a b c (bounds spot) = going c (asking_fun spot (within_of a b))
bounds_hole t a b c _ = refused c t

abbrev pub bounded_mark : Core → Tok → Option Plain → Plain → Mark → Step
bounded_mark c t None a mark.Comma = going c (bounding (Some a))
bounded_mark c t (Some a) b mark.CloseRound = closed c.frames c t (bounds_hole t a b)
bounded_mark c t from p m = refused c t
