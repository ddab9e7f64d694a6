-- Performers' lines and patterns alone: bytes, and the tree or the first fault that they have.
-- The trees are worked by hand, from the grammar. The faults are those that another program, which was written apart from this one, has for the texts.
use Rattle.std.proofs.Common.{ℕ, false, Some, None, List, codes, lit≤, refl}
use Rattle.tdl_control.specs.declared.faults.Faulted.TheVariants.{At}
use Rattle.tdl_control.specs.declared.keys.Key.TheVariants.{N, Pan, S}
use Rattle.tdl_control.specs.declared.ops.MapOp.TheVariants.{Union, Add}
use Rattle.tdl_expr.specs.declared.joinings.Side.{Side}
use Rattle.tdl_expr.specs.declared.joinings.Side.TheVariants.{Left, Right, Both}
use Rattle.tdl_fraction.specs.Divisor.{gcd}
use Rattle.tdl_fraction.specs.Rational.{frac}
use Rattle.tdl_fraction.specs.Rational as rational
use Rattle.tdl_mini_tree.specs.declared.faults.MiniKind.TheVariants as kind
use Rattle.tdl_mini_tree.specs.declared.leaves.Kind.TheVariants.{Sound, Note, Int}
use Rattle.tdl_mini_tree.specs.declared.leaves.Number.{Number}
use Rattle.tdl_mini_tree.specs.declared.leaves.Tail.TheVariants.{Decimals}
use Rattle.tdl_mini_tree.specs.Reading.{read}
use Rattle.tdl_mini_tree.specs.Tree.{Layers, Value, no_layer, layer, no_group, group, no_element, element, played, begins, value, sound, number}
use Rattle.tdl_command.specs.declared.marks.Operator.{Operator}
use Rattle.tdl_command.specs.declared.marks.Way.TheVariants.{Earlier, Later}
use Rattle.tdl_command.specs.declared.names.BareFun.TheVariants.{Rev}
use Rattle.tdl_command.specs.declared.names.Flag.TheVariants.{Unmute}
use Rattle.tdl_command.specs.declared.names.Order.TheVariants.{Look}
use Rattle.tdl_command.specs.declared.names.RatioFun.TheVariants.{Fast}
use Rattle.tdl_command.specs.declared.tree.Plain.TheVariants.{Bare, Quotient}
use Rattle.tdl_command.specs.Rules.{whole_number}
use Rattle.tdl_command.specs.Tree.{Expr, Fun, silence, control, shifted, timecat, joined, applied, no_part, part, bare, of_ratio, every, within, paren}
use Rattle.tdl_command.specs.Tree.{section, chain, plain, whole, quoted, negative, line, pattern, nothing, order, flag, play, still, jump}
use Rattle.tdl_line_machine.specs.declared.faults.LineKind.TheVariants.{Mini, Unclosed, UnknownName, BadOrbit, BadEvery}
use Rattle.tdl_line_machine.specs.declared.goals.Goal.TheVariants.{Line as a_line, Pattern as a_pattern}
use Rattle.tdl_line_texts.specs.Texts.{IsWhole, IsLine, RefusesWhole, RefusesLine}
use Rattle.tdl_definition_tests.proofs.LineAnswers.{reads, refuses}

-- mini-notation of one value
abbrev one : Value → Layers
one v = layer no_layer (group no_group (element no_element (played (begins (value v)) None None)))

-- `s "a"`, `n "1"` and `pan "1"`, with these values
abbrev sounding : List ℕ → Expr
sounding word = control S (quoted (read Sound (one (sound word None))))

abbrev numbered : ℕ → Expr
numbered n = control N (quoted (read (Note N) (one (number (whole_number n)))))

abbrev panned : ℕ → Expr
panned n = control Pan (quoted (read (Int Pan) (one (number (whole_number n)))))

-- `#`
abbrev union : Operator
union = record { side = Left; op = Union }

-- `|+`, `+|` and `|+|`
abbrev operator : Side → Operator
operator side = record { side = side; op = Add }

abbrev fast : ℕ → Fun
fast n = of_ratio Fast (plain (Bare (whole_number n)))

-- a number and so many ten-thousandths
abbrev decimals : ℕ → ℕ → Number
decimals n parts = record { is_negative = false; whole = n; tail = Decimals parts }

-- ---- trees
nothing_read : IsLine (codes "") (nothing)
nothing_read = reads a_line (codes "") (line (nothing)) (lit≤ tt) refl

comment_alone : IsLine (codes "-- x") (nothing)
comment_alone = reads a_line (codes "-- x") (line (nothing)) (lit≤ tt) refl

a_look : IsLine (codes "look") (order Look)
a_look = reads a_line (codes "look") (line (order Look)) (lit≤ tt) refl

a_flag : IsLine (codes "unmute 16") (flag Unmute 16)
a_flag = reads a_line (codes "unmute 16") (line (flag Unmute 16)) (lit≤ tt) refl

still_orbit : IsLine (codes "d1 silence") (still (Some 1))
still_orbit = reads a_line (codes "d1 silence") (line (still (Some 1))) (lit≤ tt) refl

-- `a # b # c` is `(a # b) # c`
joined_from_the_left : IsLine (codes "d1 $ s \"a\" # n \"1\" # pan \"2\"") (play (Some 1) (joined (joined (sounding (codes "a")) union (numbered 1))
    union (panned 2)))
joined_from_the_left =
    reads a_line (codes "d1 $ s \"a\" # n \"1\" # pan \"2\"") (line (play (Some 1) (joined (joined (sounding (codes "a")) union (numbered 1)) union
    (panned 2)))) (lit≤ tt) refl

a_jump : IsLine (codes "jumpMod 2 8 $ s \"a\"") (jump 2 8 (sounding (codes "a")))
a_jump = reads a_line (codes "jumpMod 2 8 $ s \"a\"") (line (jump 2 8 (sounding (codes "a")))) (lit≤ tt) refl

below_zero : IsLine (codes "d16 $ n (-3)") (play (Some 16) (control N (negative (whole_number 3))))
below_zero = reads a_line (codes "d16 $ n (-3)") (line (play (Some 16) (control N (negative (whole_number 3))))) (lit≤ tt) refl

-- `f . g $ x`
after_another : IsWhole a_pattern (codes "rev . fast 2 $ s \"a\"") (pattern (applied (chain (bare Rev) (fast 2)) (sounding (codes "a"))))
after_another = reads a_pattern (codes "rev . fast 2 $ s \"a\"") (pattern (applied (chain (bare Rev) (fast 2)) (sounding (codes "a")))) (lit≤ tt) refl

-- `1 ~> 2 <~ x` is `1 ~> (2 <~ x)`
shifted_twice : IsWhole a_pattern (codes "0.25 ~> 2 <~ s \"a\"") (pattern (shifted (plain (Bare (decimals 0 2500))) Later (shifted (plain (Bare
    (whole_number 2))) Earlier (sounding (codes "a")))))
shifted_twice =
    reads a_pattern (codes "0.25 ~> 2 <~ s \"a\"") (pattern (shifted (plain (Bare (decimals 0 2500))) Later (shifted (plain (Bare (whole_number 2)))
    Earlier (sounding (codes "a"))))) (lit≤ tt) refl

-- a shift is of the operand alone
shifted_and_joined : IsWhole a_pattern (codes "(1/4) ~> s \"a\" # n \"1\"") (pattern (joined (shifted (plain (Quotient false (whole_number 1)
    (whole_number 4))) Later (sounding (codes "a"))) union (numbered 1)))
shifted_and_joined =
    reads a_pattern (codes "(1/4) ~> s \"a\" # n \"1\"") (pattern (joined (shifted (plain (Quotient false (whole_number 1) (whole_number 4))) Later
    (sounding (codes "a"))) union (numbered 1))) (lit≤ tt) refl

-- a text in a comment is not one
comment_behind : IsWhole a_pattern (codes "s \"a\" # n \"1\" -- s \"x") (pattern (joined (sounding (codes "a")) union (numbered 1)))
comment_behind = reads a_pattern (codes "s \"a\" # n \"1\" -- s \"x") (pattern (joined (sounding (codes "a")) union (numbered 1))) (lit≤ tt) refl

section_as_an_argument : IsWhole a_pattern (codes "every 3 (# n \"1\") $ s \"a\"") (pattern (applied (every (whole 3) (section union (numbered 1)))
    (sounding (codes "a"))))
section_as_an_argument =
    reads a_pattern (codes "every 3 (# n \"1\") $ s \"a\"") (pattern (applied (every (whole 3) (section union (numbered 1))) (sounding (codes "a"))))
    (lit≤ tt) refl

part_of_a_cycle : IsWhole a_pattern (codes "within (0, 0.5) (fast 2) $ s \"a\"") (pattern (applied (within (Bare (whole_number 0)) (Bare (decimals 0
    5000)) (paren (fast 2))) (sounding (codes "a"))))
part_of_a_cycle =
    reads a_pattern (codes "within (0, 0.5) (fast 2) $ s \"a\"") (pattern (applied (within (Bare (whole_number 0)) (Bare (decimals 0 5000)) (paren
    (fast 2))) (sounding (codes "a")))) (lit≤ tt) refl

weights : IsWhole a_pattern (codes "timecat [(3, s \"a\"), (1.5, silence)]") (pattern (timecat (part (part no_part (whole_number 3) (sounding (codes
    "a"))) (decimals 1 5000) silence)))
weights =
    reads a_pattern (codes "timecat [(3, s \"a\"), (1.5, silence)]") (pattern (timecat (part (part no_part (whole_number 3) (sounding (codes "a")))
    (decimals 1 5000) silence))) (lit≤ tt) refl

three_operators : IsWhole a_pattern (codes "s \"a\" |+ n \"1\" +| n \"1\" |+| n \"1\"") (pattern (joined (joined (joined (sounding (codes "a"))
    (operator Left) (numbered 1)) (operator Right) (numbered 1)) (operator Both) (numbered 1)))
three_operators =
    reads a_pattern (codes "s \"a\" |+ n \"1\" +| n \"1\" |+| n \"1\"") (pattern (joined (joined (joined (sounding (codes "a")) (operator Left)
    (numbered 1)) (operator Right) (numbered 1)) (operator Both) (numbered 1))) (lit≤ tt) refl

-- ---- first faults
-- `--` within a text begins no comment
dashes_within_a_text : RefusesLine (codes "d1 $ s \"a--b\"") (At (Mini kind.UnknownSign) 9)
dashes_within_a_text = refuses a_line (codes "d1 $ s \"a--b\"") (Mini kind.UnknownSign) 9 (lit≤ tt) refl

-- a sign of two bytes is one token
sign_after_two_bytes : RefusesWhole a_pattern (codes "s \"bd\" |+ ^") (At (Mini kind.UnknownSign) 10)
sign_after_two_bytes = refuses a_pattern (codes "s \"bd\" |+ ^") (Mini kind.UnknownSign) 10 (lit≤ tt) refl

random_after_two_bytes : RefusesWhole a_pattern (codes "s \"bd\" +| rand") (At (Mini kind.Random) 10)
random_after_two_bytes = refuses a_pattern (codes "s \"bd\" +| rand") (Mini kind.Random) 10 (lit≤ tt) refl

name_after_three_bytes : RefusesWhole a_pattern (codes "s \"bd\" |+| foo") (At UnknownName 11)
name_after_three_bytes = refuses a_pattern (codes "s \"bd\" |+| foo") UnknownName 11 (lit≤ tt) refl

key_without_a_value : RefusesLine (codes "d1 $ s \"bd\" |+| pan") (At (Mini kind.Unexpected) 19)
key_without_a_value = refuses a_line (codes "d1 $ s \"bd\" |+| pan") (Mini kind.Unexpected) 19 (lit≤ tt) refl

-- a fault in a text stands at its byte in the line
steps_within_a_text : RefusesWhole a_pattern (codes "s \"b!1023 b!3\"") (At (Mini kind.TooManySteps) 11)
steps_within_a_text = refuses a_pattern (codes "s \"b!1023 b!3\"") (Mini kind.TooManySteps) 11 (lit≤ tt) refl

variable_within_a_text : RefusesWhole a_pattern (codes "n \"1 .. ^\"") (At (Mini kind.Variable) 8)
variable_within_a_text = refuses a_pattern (codes "n \"1 .. ^\"") (Mini kind.Variable) 8 (lit≤ tt) refl

unclosed : RefusesWhole a_pattern (codes "rev $ s \"bd") (At Unclosed 8)
unclosed = refuses a_pattern (codes "rev $ s \"bd") Unclosed 8 (lit≤ tt) refl

-- orbits are 1 to 16
no_orbit : RefusesLine (codes "d17 $ s \"bd\"") (At BadOrbit 0)
no_orbit = refuses a_line (codes "d17 $ s \"bd\"") BadOrbit 0 (lit≤ tt) refl

no_orbit_of_a_flag : RefusesLine (codes "mute 17") (At BadOrbit 5)
no_orbit_of_a_flag = refuses a_line (codes "mute 17") BadOrbit 5 (lit≤ tt) refl

too_many_cycles : RefusesLine (codes "jumpMod 1 5000 $ s \"bd\"") (At BadEvery 10)
too_many_cycles = refuses a_line (codes "jumpMod 1 5000 $ s \"bd\"") BadEvery 10 (lit≤ tt) refl

broken_above : RefusesWhole a_pattern (codes "fast (1.5/2) $ s \"a\"") (At (Mini kind.BadFactor) 6)
broken_above = refuses a_pattern (codes "fast (1.5/2) $ s \"a\"") (Mini kind.BadFactor) 6 (lit≤ tt) refl

nothing_below : RefusesLine (codes "d1 $ fast (3/0) $ s \"bd\"") (At (Mini kind.BadFactor) 13)
nothing_below = refuses a_line (codes "d1 $ fast (3/0) $ s \"bd\"") (Mini kind.BadFactor) 13 (lit≤ tt) refl

broken_value : RefusesLine (codes "d1 $ n 1.5") (At (Mini kind.FloatValue) 7)
broken_value = refuses a_line (codes "d1 $ n 1.5") (Mini kind.FloatValue) 7 (lit≤ tt) refl

no_rhythms : RefusesLine (codes "d1 $ euclid 9 8 $ s \"bd\"") (At (Mini kind.BadEuclid) 14)
unfolding rational.whole frac gcd
no_rhythms = refuses a_line (codes "d1 $ euclid 9 8 $ s \"bd\"") (Mini kind.BadEuclid) 14 (lit≤ tt) refl

seventeen_brackets : RefusesWhole a_pattern (codes "(((((((((((((((((s \"bd\")))))))))))))))))") (At (Mini kind.TooDeep) 16)
seventeen_brackets = refuses a_pattern (codes "(((((((((((((((((s \"bd\")))))))))))))))))") (Mini kind.TooDeep) 16 (lit≤ tt) refl

function_after_an_expression : RefusesWhole a_pattern (codes "s \"bd\" . rev") (At (Mini kind.Unexpected) 7)
function_after_an_expression = refuses a_pattern (codes "s \"bd\" . rev") (Mini kind.Unexpected) 7 (lit≤ tt) refl

comma_before_the_end : RefusesWhole a_pattern (codes "stack [s \"a\", silence, ]") (At (Mini kind.Unexpected) 23)
comma_before_the_end = refuses a_pattern (codes "stack [s \"a\", silence, ]") (Mini kind.Unexpected) 23 (lit≤ tt) refl

two_orders : RefusesLine (codes "hush hush") (At (Mini kind.Unexpected) 5)
two_orders = refuses a_line (codes "hush hush") (Mini kind.Unexpected) 5 (lit≤ tt) refl

function_with_no_bracket : RefusesLine (codes "d1 $ every 3 fast 2 $ s \"bd\"") (At (Mini kind.Unexpected) 13)
function_with_no_bracket = refuses a_line (codes "d1 $ every 3 fast 2 $ s \"bd\"") (Mini kind.Unexpected) 13 (lit≤ tt) refl

shift_of_no_ratio : RefusesLine (codes "d1 $ s \"bd\" ~> n") (At (Mini kind.Unexpected) 12)
shift_of_no_ratio = refuses a_line (codes "d1 $ s \"bd\" ~> n") (Mini kind.Unexpected) 12 (lit≤ tt) refl
