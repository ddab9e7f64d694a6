-- One token of the machine: what it counts, and how tests change what it does.
--     Counted          how many tokens are read after an untested step, or the fault of the token that it refuses
--     Onward           a tested step does as the untested one, or a test of the token fails
--     Pair             both; `pair` that each token does so
--     untested         a tested step that goes on is one of the machine without tests
--     is_counted       it counts the token
--     refuses          and a token that it refuses the machine without tests refuses too
use Rattle.std.proofs.Common.{◌≡◌, ℕ, suc, ◌+◌, Bool, true, false, if◌then◌else◌, not, ◌&&◌, nat_lt, Option, Some, None, Ok, Err, List, [], ◌∷◌, refl, sym}
use Rattle.std.proofs.Common.{ap, ◌∙◌, subst, arith}
use Rattle.std.specs.Prelude.{is_some}
use Rattle.tdl_grammar.specs.Grammar.{Test}
use Rattle.tdl_grammar.proofs.Tests.{ok_is, ok_fails}
use Rattle.tdl_grammar.specs.Machine.{failed, wrong, checked}
use Rattle.tdl_control.specs.declared.keys.Key.{Key}
use Rattle.tdl_control.specs.Key.{takes_word}
use Rattle.tdl_mini_tree.specs.Limits.{max_depth}
use Rattle.tdl_mini_tree.specs.declared.leaves.Kind.TheVariants.{Bool as Truths, Count as Counts, Ratio as Ratios}
use Rattle.tdl_mini_tree.specs.declared.leaves.Number.{Number}
use Rattle.tdl_mini_tree.specs.declared.faults.MiniKind.TheVariants.{FloatValue, BadFactor, BadEuclid, TooDeep}
use Rattle.tdl_mini_tree.specs.Numbers.{is_whole, is_ratio, is_weight}
use Rattle.tdl_line_machine.specs.declared.faults.LineKind.{LineKind}
use Rattle.tdl_line_machine.specs.declared.faults.LineKind.TheVariants.{Mini, BadOrbit, BadEvery}
use Rattle.tdl_line_machine.specs.declared.names.Name.{Name}
use Rattle.tdl_line_machine.specs.declared.names.Name.TheVariants as name
use Rattle.tdl_command.specs.declared.names.BoolsFun.{BoolsFun}
use Rattle.tdl_line_machine.specs.declared.marks.Mark.{Mark}
use Rattle.tdl_line_machine.specs.declared.marks.Mark.TheVariants as mark
use Rattle.tdl_command.specs.declared.marks.Way.{Way}
use Rattle.tdl_command.specs.declared.marks.Operator.{Operator}
use Rattle.tdl_command.specs.declared.tree.Plain.{Plain}
use Rattle.tdl_command.specs.declared.tree.Plain.TheVariants.{Bare, Signed}
use Rattle.tdl_command.specs.Rules.{is_below, is_orbit, is_every, kind_of}
use Rattle.tdl_line_machine.specs.Tokens.{Tok, number, quoted, end}
use Rattle.tdl_line_machine.specs.Tokens as token
use Rattle.tdl_command.specs.Tree as tree
use Rattle.tdl_command.specs.Tree.{Ratio, Count, Expr, Exprs, Parts, Fun, Line}
use Rattle.tdl_mini_tree.specs.Reading.{Reading, read, unread}
use Rattle.tdl_line_machine.specs.Pieces.{Place, test_at}
use Rattle.tdl_line_machine.specs.WrongTokens.{wrong_token}
use Rattle.tdl_line_machine.specs.Machine.States.{Spot, first, at_operand, after_dot, CountCall, FunCall, Called, wants_count, wants_fun, made_of}
use Rattle.tdl_line_machine.specs.Machine.States.{Pending}
use Rattle.tdl_line_machine.specs.Machine.States.{applies, joins, calls, shifts, Bracketed, anything, expr_or_number, fun_or_number, fun_after, argument, Hole}
use Rattle.tdl_line_machine.specs.Machine.States.{round}
use Rattle.tdl_line_machine.specs.Machine.States.{section}
use Rattle.tdl_line_machine.specs.Machine.States.{measure, bounds, bound, setting, constant, list, timecat, unweighed, weighed, Frame, Front, Stage, Core}
use Rattle.tdl_line_machine.specs.Machine.States.{State}
use Rattle.tdl_line_machine.specs.Machine.States.{Step}
use Rattle.tdl_line_machine.specs.Machine.Open.{has_exprs, has_funs, has_numbers, pushed}
use Rattle.tdl_line_machine.specs.Machine.States.{with_level, with_front, going, refused, obeying, reading}
use Rattle.tdl_line_machine.specs.Machine.Open.{opened_to}
use Rattle.tdl_line_machine.specs.Machine.Calls.{with_ratio, with_count, with_fun, has_rhythms_with, made, called, in_round, in_hole}
use Rattle.tdl_line_machine.specs.Machine.Open.{popped, closed}
use Rattle.tdl_line_machine.specs.Machine.Calls.{may_close_fun}
use Rattle.tdl_line_machine.specs.Machine.Expressions.{with_pending, applied, operand_hole, operand_in, operand, round_at, may_begin_ratio, may_begin_operand}
use Rattle.tdl_line_machine.specs.Machine.Calls.{fun_closed}
use Rattle.tdl_line_machine.specs.Machine.Expressions.{taken_name}
use Rattle.tdl_line_machine.specs.Machine.Arguments.{number_hole, number_closed, above_test, above_mark}
use Rattle.tdl_line_machine.specs.Machine.Expressions.{wanted_mark, wanted, section_hole, opening_mark, at_opening}
use Rattle.tdl_line_machine.specs.Machine.Arguments.{opened_mark, fraction_mark, at_fraction, at_minus, at_slash}
use Rattle.tdl_line_machine.specs.Machine.Expressions.{next_hole, list_hole, part_hole, expr_hole}
use Rattle.tdl_line_machine.specs.Machine.Expressions.{whole_of, at_end}
use Rattle.tdl_line_machine.specs.Machine.Functions.{chained_mark, after_fun, pending_before, named_mark, after_named, shifted_mark}
use Rattle.tdl_line_machine.specs.Machine.Expressions.{expressed_mark, after_expr}
use Rattle.tdl_line_machine.specs.Machine.Functions.{after_shift}
use Rattle.tdl_line_machine.specs.Machine.Arguments.{ratio_mark, at_ratio, is_unsigned, counted, at_count, at_bools, argument_name, argument_mark}
use Rattle.tdl_line_machine.specs.Machine.Functions.{measured_mark}
use Rattle.tdl_line_machine.specs.Machine.Arguments.{at_argument, bounds_mark}
use Rattle.tdl_line_machine.specs.Machine.Lists.{empty_hole}
use Rattle.tdl_line_machine.specs.Machine.Settings.{setting_mark, at_key, at_negating, setting_hole}
use Rattle.tdl_line_machine.specs.Machine.Arguments.{bounding_mark, at_bound, bounds_hole, bounded_mark}
use Rattle.tdl_line_machine.specs.Machine.Lists.{list_mark}
use Rattle.tdl_line_machine.specs.Machine.Lines.{beginning_name}
use Rattle.tdl_line_machine.specs.Machine.Lists.{at_list, parts_hole, part_mark, parts_mark, part_read_mark, at_weight, weighed_hole, weighed_mark}
use Rattle.tdl_line_machine.specs.Machine.Lines.{at_beginning, at_whole, dollar_mark, addressed_name, at_addressed, at_done, at_mark, closing_mark, minus_mark}
use Rattle.tdl_line_machine.specs.Machine.{taken_at, taken}
use Rattle.tdl_line_machine.specs.Machine.Lines.{negated_mark, square_mark}
use Rattle.tdl_line_machine.specs.Machine as machine
use Rattle.tdl_line_machine.specs.declared.calls.RatioCall.{RatioCall}

-- a test of a machine of lines
abbrev pub LineTest : Type 0
LineTest = Test LineKind Place

abbrev pub Counted : (n d : ℕ) → Tok → Step → Type 0
Counted n d t (Ok f) = f.core.read ≡ suc n
Counted n d t (Err (failed test)) = ⊥
Counted n d t (Err (wrong kind at)) = (kind ≡ wrong_token d t) × (at ≡ record { token = n; offset = 0 })

abbrev pub Onward : ℕ → Step → Step → Type 0
Onward n (Ok f) u = u ≡ Ok f
Onward n (Err (failed test)) u = (test.ends ≡ suc n) × (test.waits ≡ false) × (f : State) × (u ≡ Ok f)
Onward n (Err (wrong kind at)) u = u ≡ Err (wrong kind at)

-- with tests, and with none
pub record Pair (n d : ℕ) (t : Tok) (r u : Step) : Type 0 where
  pub counted : Counted n d t u
  pub onward : Onward n r u

-- a step that goes on
abbrev Goes : ℕ → Step → Type 0
Goes n u = (f : State) × (u ≡ Ok f) × (f.core.read ≡ suc n)

-- the token is told alike inside however many brackets
abbrev IsFlat : Tok → Type 0
IsFlat t = (a b : ℕ) → wrong_token a t ≡ wrong_token b t

-- ---- how pairs are made
same : (n d : ℕ) (t : Tok) (u : Step) → Counted n d t u → Pair n d t u u
same n d t (Ok f) h = record { counted = h; onward = refl }
same n d t (Err (failed test)) h = absurd h
same n d t (Err (wrong kind at)) h = record { counted = h; onward = refl }

goes_counted : (n d : ℕ) (t : Tok) (u : Step) → Goes n u → Counted n d t u
goes_counted n d t (Ok f) h = subst (λ (x : State). x.core.read ≡ suc n) (sym (ok_is (Ok f) f h.0 refl h.1)) h.2
goes_counted n d t (Err stop) h = absurd (ok_fails (Err stop) h.0 stop h.1 refl)

goes : (n d : ℕ) (t : Tok) (u : Step) → Goes n u → Pair n d t u u
goes n d t u h = same n d t u (goes_counted n d t u h)

stops : (c : Core) (t : Tok) → Pair c.read c.depth t (refused c t) (refused c t)
stops c t = record { counted = (refl, refl); onward = refl }

either : (n d : ℕ) (t : Tok) (b : Bool) (r u v w : Step) → Pair n d t r u → Pair n d t v w → Pair n d t (if b then r else v) (if b then u else w)
either n d t true r u v w h k = h
either n d t false r u v w h k = k

late_if : (n d : ℕ) (t : Tok) (test : LineTest) (r u : Step) (b : Bool) → test.ends ≡ suc n → test.waits ≡ false → Goes n u
    → Pair n d t r u → Pair n d t (if true && not b then Err (failed test) else r) u
late_if n d t test r u true ends made goes h = h
late_if n d t test r u false ends made goes h = record { counted = h.counted; onward = (ends, made, goes.0, goes.1) }

late : (n d : ℕ) (t : Tok) (test : LineTest) (r u : Step) → test.ends ≡ suc n → test.waits ≡ false → Goes n u → Pair n d t r u
    → Pair n d t (checked true test r) u
late n d t test r u ends made goes h = late_if n d t test r u test.holds ends made goes h

ends_here : (n : ℕ) → suc (0 + n) ≡ suc n
ends_here n = omega arith

obeyed : (c : Core) (t : Tok) (kind : LineKind) (holds : Bool) (r u : Step) → Goes c.read u → Pair c.read c.depth t r u
    → Pair c.read c.depth t (obeying true c kind holds r) u
obeyed c t kind holds r u g h =
    late c.read c.depth t (test_at c.read (record { kind = kind; offset = 0; more = 0; holds = holds })) r u (ends_here c.read) refl g h

-- a rule on a token that goes on
obeys : (c : Core) (t : Tok) (kind : LineKind) (holds : Bool) (u : Step) → Goes c.read u → Pair c.read c.depth t (obeying true c kind holds u) u
obeys c t kind holds u g = obeyed c t kind holds u u g (goes c.read c.depth t u g)

texts : (c : Core) (t : Tok) (x : Reading) (r u : Step) → Goes c.read u → Pair c.read c.depth t r u
    → Pair c.read c.depth t (reading true c x r) (reading false c x u)
texts c t (read k ls) r u g h = h
texts c t (unread fault at) r u g h =
    late c.read c.depth t (test_at c.read (record { kind = Mini fault; offset = suc at; more = 0; holds = false })) r u (ends_here c.read) refl g h

-- ---- what goes on
going_goes : (c : Core) (p : Stage) → Goes c.read (going c p)
going_goes c p = (_, refl, refl)

made_goes : (c : Core) (spot : Spot) (f : Fun) → Goes c.read (made c spot f)
made_goes c first f = (_, refl, refl)
made_goes c at_operand f = (_, refl, refl)
made_goes c (after_dot g) f = (_, refl, refl)

called_goes : (c : Core) (spot : Spot) (call : Called) → Goes c.read (called c spot call)
called_goes c spot (wants_count call) = (_, refl, refl)
called_goes c spot (wants_fun call) = (_, refl, refl)
called_goes c spot (made_of f) = made_goes c spot f

hole_goes : (c : Core) (f : Frame) (frames : List Frame) (e : Expr) (h : Hole) → Goes c.read (operand_hole c f frames e h)
hole_goes c f frames e (constant spot) = made_goes (popped c f frames) spot (tree.const e)
hole_goes c f frames e h = (_, refl, refl)

operand_goes : (c : Core) (e : Expr) → Goes c.read (operand c e)
operand_goes c e = by_frames c.frames
  where
    by_frames : (frames : List Frame) → Goes c.read (operand_in (with_level c (with_pending c.level e).level) frames (with_pending c.level e).expr)
    by_frames [] = (_, refl, refl)
    by_frames (f ∷ frames) = hole_goes (with_level c (with_pending c.level e).level) f frames (with_pending c.level e).expr f.hole

-- ---- brackets
opens : (c : Core) (t : Tok) (hole : Hole) (p : Stage) → Pair c.read c.depth t (opened_to true c hole p) (opened_to false c hole p)
opens c t hole p = obeys c t (Mini TooDeep) (nat_lt c.depth max_depth) (going (pushed c hole (suc c.depth)) p) (_, refl, refl)

-- what closes a bracket with a token that is told alike everywhere
flat : (n a b : ℕ) (t : Tok) (u : Step) → IsFlat t → Counted n a t u → Counted n b t u
flat n a b t (Ok f) e h = h
flat n a b t (Err (failed test)) e h = h
flat n a b t (Err (wrong kind at)) e h = (h.0 ∙ e a b, h.1)

closes : (c : Core) (frames : List Frame) (t : Tok) (next : Core → Hole → Step) → IsFlat t
    → ((d : Core) (h : Hole) → d.read ≡ c.read → Counted d.read d.depth t (next d h)) → Counted c.read c.depth t (closed frames c t next)
closes c [] t next e each = (refl, refl)
closes c (f ∷ frames) t next e each =
    flat c.read f.depth c.depth t (next (popped c f frames) f.hole) e (each (popped c f frames) f.hole refl)

-- likewise where what is open matters to nothing
shuts : (c : Core) (t : Tok) (next : Core → Hole → Step) → IsFlat t → ((d : Core) (h : Hole) → Counted d.read d.depth t (next d h))
    → Pair c.read c.depth t (closed c.frames c t next) (closed c.frames c t next)
shuts c t next e each =
    same c.read c.depth t (closed c.frames c t next) (closes c c.frames t next e (λ d h k. each d h))

counts : (c : Core) (t : Tok) (u : Step) → Goes c.read u → Counted c.read c.depth t u
counts c t u g = goes_counted c.read c.depth t u g

round_counted : (c : Core) (t : Tok) (r : Bracketed) (f : Fun) → Counted c.read c.depth t (in_round c t r f)
round_counted c t anything f = refl
round_counted c t expr_or_number f = (refl, refl)
round_counted c t fun_or_number f = refl
round_counted c t (fun_after g) f = refl
round_counted c t (argument spot call) f = counts c t (made c spot (with_fun call f)) (made_goes c spot (with_fun call f))

in_hole_counted : (t : Tok) (f : Fun) (c : Core) (h : Hole) → Counted c.read c.depth t (in_hole t f c h)
in_hole_counted t f c (round r) = round_counted c t r f
in_hole_counted t f c h = (refl, refl)

section_counted : (t : Tok) (depth : ℕ) (operator : Operator) (c : Core) (h : Hole) → Counted c.read c.depth t (section_hole t depth operator c h)
section_counted t depth operator c (round r) = refl
section_counted t depth operator c h = (refl, refl)

next_counted : (t : Tok) (depth : ℕ) (e : Expr) (c : Core) (h : Hole) → Counted c.read c.depth t (next_hole t depth e c h)
next_counted t depth e c (list shape es) = refl
next_counted t depth e c h = (refl, refl)

list_counted : (t : Tok) (e : Expr) (c : Core) (h : Hole) → Counted c.read c.depth t (list_hole t e c h)
list_counted t e c (list shape es) = counts c t (operand c (tree.list shape (tree.further es e))) (operand_goes c _)
list_counted t e c h = (refl, refl)

part_counted : (t : Tok) (depth : ℕ) (n : Number) (e : Expr) (c : Core) (h : Hole) → Counted c.read c.depth t (part_hole t depth n e c h)
part_counted t depth n e c (timecat ps) = refl
part_counted t depth n e c h = (refl, refl)

expr_counted : (t : Tok) → IsFlat t → (e : Expr) (c : Core) (h : Hole) → Counted c.read c.depth t (expr_hole t e c h)
expr_counted t flat e c (round anything) = counts c t (operand c (tree.inside e)) (operand_goes c _)
expr_counted t flat e c (round expr_or_number) = counts c t (operand c (tree.inside e)) (operand_goes c _)
expr_counted t flat e c (section r operator) = round_counted c t r (tree.section operator e)
expr_counted t flat e c (weighed n) = closes c c.frames t (part_hole t c.depth n e) flat (λ d h k. part_counted t c.depth n e d h)
expr_counted t flat e c h = (refl, refl)

number_counted : (t : Tok) (p : Plain) (c : Core) (h : Hole) → Counted c.read c.depth t (number_hole t p c h)
number_counted t p c (round anything) = refl
number_counted t p c (round expr_or_number) = refl
number_counted t p c (round fun_or_number) = refl
number_counted t p c (measure spot call) = counts c t (called c spot (with_ratio call (tree.plain p))) (called_goes c spot _)
number_counted t p c (bound from) = refl
number_counted t p c h = (refl, refl)

bounds_counted : (t : Tok) (a b : Plain) (c : Core) (h : Hole) → Counted c.read c.depth t (bounds_hole t a b c h)
bounds_counted t a b c (bounds spot) = refl
bounds_counted t a b c h = (refl, refl)

setting_counted : (t : Tok) (n : Number) (c : Core) (h : Hole) → Counted c.read c.depth t (setting_hole t n c h)
setting_counted t n c (setting key) = counts c t (operand c (tree.control key (tree.negative n))) (operand_goes c _)
setting_counted t n c h = (refl, refl)

empty_counted : (t : Tok) (c : Core) (h : Hole) → Counted c.read c.depth t (empty_hole t c h)
empty_counted t c (list shape es) = counts c t (operand c (tree.list shape es)) (operand_goes c _)
empty_counted t c h = (refl, refl)

parts_counted : (t : Tok) (c : Core) (h : Hole) → Counted c.read c.depth t (parts_hole t c h)
parts_counted t c (timecat ps) = counts c t (operand c (tree.timecat ps)) (operand_goes c _)
parts_counted t c h = (refl, refl)

number_ends : (c : Core) (t : Tok) (p : Plain) → IsFlat t → Pair c.read c.depth t (number_closed c t p) (number_closed c t p)
number_ends c t p e = shuts c t (number_hole t p) e (number_counted t p)

fun_ends : (c : Core) (t : Tok) (f : Fun) → IsFlat t → Pair c.read c.depth t (fun_closed c t f) (fun_closed c t f)
fun_ends c t f e =
    either c.read c.depth t (may_close_fun c) _ _ _ _ (shuts c t (in_hole t f) e (in_hole_counted t f)) (stops c t)

-- a stage after a token
step : (c : Core) (t : Tok) (p : Stage) → Pair c.read c.depth t (going c p) (going c p)
step c t p = goes c.read c.depth t (going c p) (going_goes c p)

-- ---- something begins
-- with other things kept
moves : (c d : Core) (t : Tok) (p : Stage) → d.read ≡ c.read → Pair c.read c.depth t (going d p) (going d p)
moves c d t p e = goes c.read c.depth t (going d p) (_, refl, ap suc e)

begins_if : (c : Core) (t : Tok) (b : Bool) (p : Stage) → Pair c.read c.depth t (if b then going c p else refused c t) (if b then going c p else refused c t)
begins_if c t b p = either c.read c.depth t b _ _ _ _ (step c t p) (stops c t)

name_pair : (c : Core) (t : Tok) (spot : Spot) (n : Name) → Pair c.read c.depth t (taken_name c t spot n) (taken_name c t spot n)
name_pair c t spot name.Silence =
    either c.read c.depth t (may_begin_operand c spot) _ _ _ _ (goes c.read c.depth t (operand c tree.silence) (operand_goes c tree.silence)) (stops c t)
name_pair c t spot (name.Key key) = begins_if c t (may_begin_operand c spot) (machine.keyed key)
name_pair c t spot (name.List shape) = begins_if c t (may_begin_operand c spot) (machine.listing shape)
name_pair c t spot name.Timecat = begins_if c t (may_begin_operand c spot) machine.timing
name_pair c t spot (name.Bare f) = goes c.read c.depth t (made c spot (tree.bare f)) (made_goes c spot (tree.bare f))
name_pair c t spot (name.OfRatio f) = step c t _
name_pair c t spot name.Off = step c t _
name_pair c t spot (name.OfCount f) = step c t _
name_pair c t spot name.Every = step c t _
name_pair c t spot (name.Cycle g) = step c t _
name_pair c t spot name.Euclid = step c t _
name_pair c t spot name.EuclidOff = step c t _
name_pair c t spot (name.OfBools f) = step c t _
name_pair c t spot (name.Layer g) = step c t _
name_pair c t spot name.Within = step c t _
name_pair c t spot name.Const = moves c (pushed c (constant spot) c.depth) t (machine.wanting at_operand) refl
name_pair c t spot n = stops c t

wanted_mark_pair : (c : Core) (t : Tok) (spot : Spot) (m : Mark) → Pair c.read c.depth t (wanted_mark true c t spot m) (wanted_mark false c t spot m)
wanted_mark_pair c t spot mark.OpenRound = opens c t (round (round_at c spot)) machine.opening
wanted_mark_pair c t spot m = stops c t

wanted_pair : (c : Core) (t : Tok) (spot : Spot) → Pair c.read c.depth t (wanted true c t spot) (wanted false c t spot)
wanted_pair c (number n) spot =
    either c.read c.depth (number n) (may_begin_ratio spot) _ _ _ _ (obeys c (number n) (Mini BadFactor) (is_ratio n) _ (going_goes c _)) (stops c (number n))
wanted_pair c (token.name n) spot = name_pair c (token.name n) spot n
wanted_pair c (quoted readings) spot =
    either c.read c.depth (quoted readings) (may_begin_ratio spot) _ _ _ _
    (texts c (quoted readings) (readings Ratios) _ _ (going_goes c _) (step c (quoted readings) _)) (stops c (quoted readings))
wanted_pair c (token.mark m) spot = wanted_mark_pair c (token.mark m) spot m
wanted_pair c end spot = stops c end

opening_mark_pair : (c : Core) (m : Mark) → Pair c.read c.depth (token.mark m) (opening_mark true c (token.mark m) m) (opening_mark false c (token.mark m) m)
opening_mark_pair c mark.Minus = either c.read c.depth (token.mark mark.Minus) (has_numbers c.frames) _ _ _ _ (step c _ _) (stops c _)
opening_mark_pair c (mark.Operator operator) =
    either c.read c.depth (token.mark (mark.Operator operator)) (has_funs c.frames) _ _ _ _
    (shuts c (token.mark (mark.Operator operator)) (section_hole (token.mark (mark.Operator operator)) c.depth operator) (λ a b. refl)
    (section_counted (token.mark (mark.Operator operator)) c.depth operator)) (stops c _)
opening_mark_pair c m = wanted_pair c (token.mark m) first

opening_pair : (c : Core) (t : Tok) → Pair c.read c.depth t (at_opening true c t) (at_opening false c t)
opening_pair c (number n) = obeys c (number n) (Mini BadFactor) (is_ratio n) _ (going_goes c _)
opening_pair c (token.name n) = wanted_pair c (token.name n) first
opening_pair c (quoted readings) = wanted_pair c (quoted readings) first
opening_pair c (token.mark m) = opening_mark_pair c m
opening_pair c end = wanted_pair c end first

pending_pair : (c : Core) (t : Tok) (p : Pending) → Pair c.read c.depth t (pending_before true c t p) (pending_before false c t p)
pending_pair c t p =
    either c.read c.depth t (has_exprs c.frames) _ _ _ _ (wanted_pair (with_level c (p ∷ c.level)) t at_operand) (stops c t)

-- ---- numbers in round brackets
above_mark_pair : (c : Core) (negative : Bool) (n : Number) (at : ℕ) (m : Mark)
    → Pair c.read c.depth (token.mark m) (above_mark true c (token.mark m) negative n at m) (above_mark false c (token.mark m) negative n at m)
above_mark_pair c negative n at mark.CloseRound = number_ends c (token.mark mark.CloseRound) (Signed negative n) (λ a b. refl)
above_mark_pair c negative n at mark.Slash =
    late c.read c.depth (token.mark mark.Slash) (above_test c at n) _ _ refl refl (going_goes c (machine.slash negative n)) (step c _ _)
above_mark_pair c negative n at m = stops c (token.mark m)

opened_mark_pair : (c : Core) (n : Number) (at : ℕ) (m : Mark)
    → Pair c.read c.depth (token.mark m) (opened_mark true c (token.mark m) n at m) (opened_mark false c (token.mark m) n at m)
opened_mark_pair c n at (mark.Shift way) = step c _ _
opened_mark_pair c n at m =
    either c.read c.depth (token.mark m) (has_numbers c.frames) _ _ _ _ (above_mark_pair c false n at m) (stops c (token.mark m))

fraction_pair : (c : Core) (t : Tok) → Pair c.read c.depth t (at_fraction true c t) (at_fraction false c t)
fraction_pair c (number n) = obeys c (number n) (Mini BadFactor) (is_ratio n) _ (going_goes c _)
fraction_pair c (token.mark m) = by_mark m
  where
    by_mark : (m : Mark) → Pair c.read c.depth (token.mark m) (fraction_mark c (token.mark m) m) (fraction_mark c (token.mark m) m)
    by_mark mark.Minus = step c _ _
    by_mark m = stops c (token.mark m)
fraction_pair c t = stops c t

minus_pair : (c : Core) (t : Tok) → Pair c.read c.depth t (at_minus true c t) (at_minus false c t)
minus_pair c (number n) = obeys c (number n) (Mini BadFactor) (is_ratio n) _ (going_goes c _)
minus_pair c t = stops c t

slash_pair : (c : Core) (t : Tok) (negative : Bool) (a : Number) → Pair c.read c.depth t (at_slash true c t negative a) (at_slash false c t negative a)
slash_pair c (number b) negative a = obeys c (number b) (Mini BadFactor) (is_below b) _ (going_goes c _)
slash_pair c t negative a = stops c t

-- ---- after expressions and functions
expressed_pair : (c : Core) (e : Expr) (m : Mark)
    → Pair c.read c.depth (token.mark m) (expressed_mark c (token.mark m) e m) (expressed_mark c (token.mark m) e m)
expressed_pair c e (mark.Operator operator) =
    moves c (with_level c (joins e operator ∷ c.level)) (token.mark (mark.Operator operator)) (machine.wanting at_operand) refl
expressed_pair c e mark.CloseRound =
    shuts c (token.mark mark.CloseRound) (expr_hole (token.mark mark.CloseRound) (applied c.level e)) (λ a b. refl)
    (expr_counted (token.mark mark.CloseRound) (λ a b. refl) (applied c.level e))
expressed_pair c e mark.CloseSquare =
    shuts c (token.mark mark.CloseSquare) (list_hole (token.mark mark.CloseSquare) (applied c.level e)) (λ a b. refl)
    (list_counted (token.mark mark.CloseSquare) (applied c.level e))
expressed_pair c e mark.Comma =
    shuts c (token.mark mark.Comma) (next_hole (token.mark mark.Comma) c.depth (applied c.level e)) (λ a b. refl)
    (next_counted (token.mark mark.Comma) c.depth (applied c.level e))
expressed_pair c e m = stops c (token.mark m)

end_pair : (c : Core) (frames : List Frame) (e : Expr) → Pair c.read c.depth end (at_end c end frames e) (at_end c end frames e)
end_pair c [] e = moves c (with_level c []) end (machine.ended (whole_of c.front e)) refl
end_pair c (f ∷ frames) e = stops c end

expr_pair : (c : Core) (t : Tok) (e : Expr) → Pair c.read c.depth t (after_expr c t e) (after_expr c t e)
expr_pair c (number n) e = stops c (number n)
expr_pair c (token.name n) e = stops c (token.name n)
expr_pair c (quoted readings) e = stops c (quoted readings)
expr_pair c (token.mark m) e = expressed_pair c e m
expr_pair c end e = end_pair c c.frames (applied c.level e)

chained_pair : (c : Core) (f : Fun) (m : Mark) → Pair c.read c.depth (token.mark m) (chained_mark c (token.mark m) f m) (chained_mark c (token.mark m) f m)
chained_pair c f mark.Dot = step c _ _
chained_pair c f mark.Dollar =
    either c.read c.depth (token.mark mark.Dollar) (has_exprs c.frames) _ _ _ _
    (moves c (with_level c (applies f ∷ c.level)) (token.mark mark.Dollar) (machine.wanting first) refl) (stops c (token.mark mark.Dollar))
chained_pair c f mark.CloseRound = fun_ends c (token.mark mark.CloseRound) (tree.paren f) (λ a b. refl)
chained_pair c f m = stops c (token.mark m)

fun_pair : (c : Core) (t : Tok) (f : Fun) → Pair c.read c.depth t (after_fun c t f) (after_fun c t f)
fun_pair c (token.mark m) f = chained_pair c f m
fun_pair c t f = stops c t

named_pair : (c : Core) (t : Tok) (f : Fun) → Pair c.read c.depth t (after_named true c t f) (after_named false c t f)
named_pair c (token.mark m) f = by_mark m
  where
    by_mark : (m : Mark) → Pair c.read c.depth (token.mark m) (named_mark true c (token.mark m) f m) (named_mark false c (token.mark m) f m)
    by_mark mark.Dot = chained_pair c f mark.Dot
    by_mark mark.Dollar = chained_pair c f mark.Dollar
    by_mark mark.CloseRound = chained_pair c f mark.CloseRound
    by_mark m = pending_pair c (token.mark m) (calls f)
named_pair c t f = pending_pair c t (calls f)

shifted_pair : (c : Core) (t : Tok) (r : Ratio) (way : Way) → Pair c.read c.depth t (after_shift true c t r way) (after_shift false c t r way)
shifted_pair c (token.mark m) r way = by_mark m
  where
    by_mark : (m : Mark) → Pair c.read c.depth (token.mark m) (shifted_mark true c (token.mark m) r way m) (shifted_mark false c (token.mark m) r way m)
    by_mark mark.CloseRound =
        either c.read c.depth (token.mark mark.CloseRound) (may_close_fun c) _ _ _ _
        (shuts c (token.mark mark.CloseRound) (in_hole (token.mark mark.CloseRound) (tree.shift r way)) (λ a b. refl)
        (in_hole_counted (token.mark mark.CloseRound) (tree.shift r way)))
        (pending_pair c (token.mark mark.CloseRound) (shifts r way))
    by_mark m = pending_pair c (token.mark m) (shifts r way)
shifted_pair c t r way = pending_pair c t (shifts r way)

-- ---- arguments
ratio_pair : (c : Core) (t : Tok) (spot : Spot) (call : RatioCall) → Pair c.read c.depth t (at_ratio true c t spot call) (at_ratio false c t spot call)
ratio_pair c (number n) spot call = obeys c (number n) (Mini BadFactor) (is_ratio n) _ (called_goes c spot (with_ratio call (tree.plain (Bare n))))
ratio_pair c (token.name n) spot call = stops c (token.name n)
ratio_pair c (quoted readings) spot call =
    let g = called_goes c spot (with_ratio call (tree.measured (readings Ratios))) in
    texts c (quoted readings) (readings Ratios) _ _ g (goes c.read c.depth (quoted readings) _ g)
ratio_pair c (token.mark m) spot call = by_mark m
  where
    by_mark : (m : Mark) → Pair c.read c.depth (token.mark m) (ratio_mark true c (token.mark m) spot call m) (ratio_mark false c (token.mark m) spot call m)
    by_mark mark.OpenRound = opens c (token.mark mark.OpenRound) (measure spot call) machine.fraction
    by_mark m = stops c (token.mark m)
ratio_pair c end spot call = stops c end

-- a count, with the rule on it
counted_pair : (c : Core) (t : Tok) (spot : Spot) (call : CountCall) (n : Count)
    → Pair c.read c.depth t (counted true c spot call n) (counted false c spot call n)
counted_pair c t spot call n = obeys c t (Mini BadEuclid) (has_rhythms_with call n) _ (called_goes c spot (with_count call n))

count_pair : (c : Core) (t : Tok) (spot : Spot) (call : CountCall) → Pair c.read c.depth t (at_count true c t spot call) (at_count false c t spot call)
count_pair c (number n) spot call =
    either c.read c.depth (number n) (is_unsigned n) _ _ _ _
    (obeyed c (number n) (Mini BadFactor) (is_ratio n) _ _ (called_goes c spot (with_count call (tree.whole n.whole)))
    (counted_pair c (number n) spot call (tree.whole n.whole))) (stops c (number n))
count_pair c (quoted readings) spot call =
    texts c (quoted readings) (readings Counts) _ _ (called_goes c spot (with_count call (tree.counted (readings Counts))))
    (counted_pair c (quoted readings) spot call (tree.counted (readings Counts)))
count_pair c t spot call = stops c t

bools_pair : (c : Core) (t : Tok) (spot : Spot) (f : BoolsFun) → Pair c.read c.depth t (at_bools true c t spot f) (at_bools false c t spot f)
bools_pair c (quoted readings) spot f =
    let g = made_goes c spot (tree.of_bools f (readings Truths)) in
    texts c (quoted readings) (readings Truths) _ _ g (goes c.read c.depth (quoted readings) _ g)
bools_pair c t spot f = stops c t

argument_pair : (c : Core) (t : Tok) (spot : Spot) (call : FunCall) → Pair c.read c.depth t (at_argument true c t spot call) (at_argument false c t spot call)
argument_pair c (token.name n) spot call = by_name n
  where
    by_name : (n : Name) → Pair c.read c.depth (token.name n) (argument_name c (token.name n) spot call n) (argument_name c (token.name n) spot call n)
    by_name (name.Bare f) = goes c.read c.depth _ _ (made_goes c spot (with_fun call (tree.bare f)))
    by_name n = stops c (token.name n)
argument_pair c (token.mark m) spot call = by_mark m
  where
    by_mark : (m : Mark) → Pair c.read c.depth (token.mark m) (argument_mark true c (token.mark m) spot call m)
        (argument_mark false c (token.mark m) spot call m)
    by_mark mark.OpenRound = opens c (token.mark mark.OpenRound) (round (argument spot call)) machine.opening
    by_mark m = stops c (token.mark m)
argument_pair c t spot call = stops c t

bounds_pair : (c : Core) (spot : Spot) (m : Mark)
    → Pair c.read c.depth (token.mark m) (bounds_mark true c (token.mark m) spot m) (bounds_mark false c (token.mark m) spot m)
bounds_pair c spot mark.OpenRound = opens c (token.mark mark.OpenRound) (bounds spot) (machine.bounding None)
bounds_pair c spot m = stops c (token.mark m)

bound_pair : (c : Core) (t : Tok) (from : Option Plain) → Pair c.read c.depth t (at_bound true c t from) (at_bound false c t from)
bound_pair c (number n) from = obeys c (number n) (Mini BadFactor) (is_ratio n) _ (going_goes c _)
bound_pair c (token.mark m) from = by_mark m
  where
    by_mark : (m : Mark) → Pair c.read c.depth (token.mark m) (bounding_mark true c (token.mark m) from m) (bounding_mark false c (token.mark m) from m)
    by_mark mark.OpenRound = opens c (token.mark mark.OpenRound) (bound from) machine.fraction
    by_mark m = stops c (token.mark m)
bound_pair c t from = stops c t

bounded_pair : (c : Core) (from : Option Plain) (p : Plain) (m : Mark)
    → Pair c.read c.depth (token.mark m) (bounded_mark c (token.mark m) from p m) (bounded_mark c (token.mark m) from p m)
bounded_pair c None a mark.Comma = step c _ _
bounded_pair c (Some a) b mark.CloseRound =
    shuts c (token.mark mark.CloseRound) (bounds_hole (token.mark mark.CloseRound) a b) (λ x y. refl) (bounds_counted (token.mark mark.CloseRound) a b)
bounded_pair c from p m = stops c (token.mark m)

-- ---- keys and lists
key_pair : (c : Core) (t : Tok) (key : Key) → Pair c.read c.depth t (at_key true c t key) (at_key false c t key)
key_pair c (number n) key =
    either c.read c.depth (number n) (takes_word key && is_whole n) _ _ _ _ (stops c (number n))
    (obeys c (number n) (Mini FloatValue) (is_whole n) _ (operand_goes c (tree.control key (tree.numeral n))))
key_pair c (token.name n) key = stops c (token.name n)
key_pair c (quoted readings) key =
    let g = operand_goes c (tree.control key (tree.quoted (readings (kind_of key)))) in
    texts c (quoted readings) (readings (kind_of key)) _ _ g (goes c.read c.depth (quoted readings) _ g)
key_pair c (token.mark m) key = by_mark m
  where
    by_mark : (m : Mark) → Pair c.read c.depth (token.mark m) (setting_mark true c (token.mark m) key m) (setting_mark false c (token.mark m) key m)
    by_mark mark.OpenRound =
        either c.read c.depth (token.mark mark.OpenRound) (takes_word key) _ _ _ _ (stops c _) (opens c (token.mark mark.OpenRound) (setting key) machine.set)
    by_mark m = stops c (token.mark m)
key_pair c end key = stops c end

set_pair : (c : Core) (m : Mark) → Pair c.read c.depth (token.mark m) (minus_mark c (token.mark m) m) (minus_mark c (token.mark m) m)
set_pair c mark.Minus = step c _ _
set_pair c m = stops c (token.mark m)

negating_pair : (c : Core) (t : Tok) → Pair c.read c.depth t (at_negating true c t) (at_negating false c t)
negating_pair c (number n) = obeys c (number n) (Mini FloatValue) (is_whole n) _ (going_goes c _)
negating_pair c t = stops c t

negated_pair : (c : Core) (n : Number) (m : Mark) → Pair c.read c.depth (token.mark m) (negated_mark c (token.mark m) n m) (negated_mark c (token.mark m) n m)
negated_pair c n mark.CloseRound =
    shuts c (token.mark mark.CloseRound) (setting_hole (token.mark mark.CloseRound) n) (λ a b. refl) (setting_counted (token.mark mark.CloseRound) n)
negated_pair c n m = stops c (token.mark m)

square_pair : (c : Core) (h : Hole) (p : Stage) (m : Mark)
    → Pair c.read c.depth (token.mark m) (square_mark true c (token.mark m) h p m) (square_mark false c (token.mark m) h p m)
square_pair c h p mark.OpenSquare = opens c (token.mark mark.OpenSquare) h p
square_pair c h p m = stops c (token.mark m)

list_pair : (c : Core) (t : Tok) → Pair c.read c.depth t (at_list true c t) (at_list false c t)
list_pair c (token.mark m) = by_mark m
  where
    by_mark : (m : Mark) → Pair c.read c.depth (token.mark m) (list_mark true c (token.mark m) m) (list_mark false c (token.mark m) m)
    by_mark mark.CloseSquare =
        shuts c (token.mark mark.CloseSquare) (empty_hole (token.mark mark.CloseSquare)) (λ a b. refl) (empty_counted (token.mark mark.CloseSquare))
    by_mark m = wanted_pair c (token.mark m) first
list_pair c t = wanted_pair c t first

part_pair : (c : Core) (m : Mark) → Pair c.read c.depth (token.mark m) (part_mark true c (token.mark m) m) (part_mark false c (token.mark m) m)
part_pair c mark.OpenRound = opens c (token.mark mark.OpenRound) unweighed machine.weighing
part_pair c m = stops c (token.mark m)

parts_end : (c : Core) → Pair c.read c.depth (token.mark mark.CloseSquare)
    (closed c.frames c (token.mark mark.CloseSquare) (parts_hole (token.mark mark.CloseSquare)))
    (closed c.frames c (token.mark mark.CloseSquare) (parts_hole (token.mark mark.CloseSquare)))
parts_end c = shuts c (token.mark mark.CloseSquare) (parts_hole (token.mark mark.CloseSquare)) (λ a b. refl) (parts_counted (token.mark mark.CloseSquare))

parts_pair : (c : Core) (m : Mark) → Pair c.read c.depth (token.mark m) (parts_mark true c (token.mark m) m) (parts_mark false c (token.mark m) m)
parts_pair c mark.CloseSquare = parts_end c
parts_pair c m = part_pair c m

part_read_pair : (c : Core) (m : Mark) → Pair c.read c.depth (token.mark m) (part_read_mark c (token.mark m) m) (part_read_mark c (token.mark m) m)
part_read_pair c mark.Comma = step c _ _
part_read_pair c mark.CloseSquare = parts_end c
part_read_pair c m = stops c (token.mark m)

weight_pair : (c : Core) (t : Tok) → Pair c.read c.depth t (at_weight true c t) (at_weight false c t)
weight_pair c (number n) = obeys c (number n) (Mini BadFactor) (is_weight n) _ (going_goes c _)
weight_pair c t = stops c t

weighed_pair : (c : Core) (n : Number) (m : Mark) → Pair c.read c.depth (token.mark m) (weighed_mark c (token.mark m) n m) (weighed_mark c (token.mark m) n m)
weighed_pair c n mark.Comma = shuts c (token.mark mark.Comma) (weighed_hole c.depth n) (λ a b. refl) (λ d h. refl)
weighed_pair c n m = stops c (token.mark m)

-- ---- lines
beginning_pair : (c : Core) (t : Tok) → Pair c.read c.depth t (at_beginning true c t) (at_beginning false c t)
beginning_pair c (token.name n) = by_name n
  where
    by_name : (n : Name) → Pair c.read c.depth (token.name n) (beginning_name true c (token.name n) n) (beginning_name false c (token.name n) n)
    by_name (name.Order o) = step c _ _
    by_name (name.Flag f) = step c _ _
    by_name name.JumpMod = step c _ _
    by_name (name.Orbit o) = obeys c (token.name (name.Orbit o)) BadOrbit (is_some o) _ (going_goes c _)
    by_name n = stops c (token.name n)
beginning_pair c end = step c _ _
beginning_pair c t = stops c t

whole_pair : (c : Core) (t : Tok) (kind : LineKind) (holds : ℕ → Bool) (next : ℕ → Stage)
    → Pair c.read c.depth t (at_whole true c t kind holds next) (at_whole false c t kind holds next)
whole_pair c (number n) kind holds next =
    either c.read c.depth (number n) (is_unsigned n) _ _ _ _ (obeys c (number n) kind (holds n.whole) _ (going_goes c (next n.whole))) (stops c (number n))
whole_pair c t kind holds next = stops c t

dollar_pair : (c : Core) (front : Front) (m : Mark)
    → Pair c.read c.depth (token.mark m) (dollar_mark c (token.mark m) front m) (dollar_mark c (token.mark m) front m)
dollar_pair c front mark.Dollar = moves c (with_front c front) (token.mark mark.Dollar) (machine.wanting first) refl
dollar_pair c front m = stops c (token.mark m)

addressed_pair : (c : Core) (t : Tok) (o : Option ℕ) → Pair c.read c.depth t (at_addressed c t o) (at_addressed c t o)
addressed_pair c (token.name n) o = by_name n
  where
    by_name : (n : Name) → Pair c.read c.depth (token.name n) (addressed_name c (token.name n) o n) (addressed_name c (token.name n) o n)
    by_name name.Silence = step c _ _
    by_name n = stops c (token.name n)
addressed_pair c (token.mark m) o = dollar_pair c (machine.plays o) m
addressed_pair c t o = stops c t

done_pair : (c : Core) (t : Tok) (l : Line) → Pair c.read c.depth t (at_done c t l) (at_done c t l)
done_pair c end l = step c _ _
done_pair c t l = stops c t

measured_pair : (c : Core) (r : Ratio) (m : Mark)
    → Pair c.read c.depth (token.mark m) (measured_mark c (token.mark m) r m) (measured_mark c (token.mark m) r m)
measured_pair c r (mark.Shift way) = step c _ _
measured_pair c r m = stops c (token.mark m)

closing_pair : (c : Core) (p : Plain) (m : Mark) → Pair c.read c.depth (token.mark m) (closing_mark c (token.mark m) p m) (closing_mark c (token.mark m) p m)
closing_pair c p mark.CloseRound = number_ends c (token.mark mark.CloseRound) p (λ a b. refl)
closing_pair c p m = stops c (token.mark m)

-- a stage where nothing but a mark goes on
at_marks : (c : Core) (t : Tok) (next other : Tok → Mark → Step)
    → ((m : Mark) → Pair c.read c.depth (token.mark m) (next (token.mark m) m) (other (token.mark m) m))
    → Pair c.read c.depth t (at_mark c t (next t)) (at_mark c t (other t))
at_marks c (token.mark m) next other each = each m
at_marks c (number n) next other each = stops c (number n)
at_marks c (token.name n) next other each = stops c (token.name n)
at_marks c (quoted readings) next other each = stops c (quoted readings)
at_marks c end next other each = stops c end

pub pair_at : (c : Core) (t : Tok) (p : Stage) → Pair c.read c.depth t (taken_at true c t p) (taken_at false c t p)
pair_at c t machine.beginning = beginning_pair c t
pair_at c t (machine.flagging f) = whole_pair c t BadOrbit is_orbit (λ n. machine.done (tree.flag f n))
pair_at c t (machine.addressed o) = addressed_pair c t o
pair_at c t machine.jumping = whole_pair c t BadOrbit is_orbit machine.jumping_at
pair_at c t (machine.jumping_at n) = whole_pair c t BadEvery is_every (machine.jumped n)
pair_at c t (machine.jumped n every) = at_marks c t (λ u. dollar_mark c u (machine.jumps n every)) (λ u. dollar_mark c u (machine.jumps n every))
    (dollar_pair c (machine.jumps n every))
pair_at c t (machine.done l) = done_pair c t l
pair_at c t (machine.ended w) = stops c t
pair_at c t (machine.wanting spot) = wanted_pair c t spot
pair_at c t machine.opening = opening_pair c t
pair_at c t (machine.opened n at) = at_marks c t (λ u. opened_mark true c u n at) (λ u. opened_mark false c u n at) (opened_mark_pair c n at)
pair_at c t (machine.measured r) = at_marks c t (λ u. measured_mark c u r) (λ u. measured_mark c u r) (measured_pair c r)
pair_at c t (machine.shifted r way) = shifted_pair c t r way
pair_at c t (machine.expressed e) = expr_pair c t e
pair_at c t (machine.named f) = named_pair c t f
pair_at c t (machine.chained f) = fun_pair c t f
pair_at c t (machine.keyed key) = key_pair c t key
pair_at c t machine.set = at_marks c t (λ u. minus_mark c u) (λ u. minus_mark c u) (set_pair c)
pair_at c t machine.negating = negating_pair c t
pair_at c t (machine.negated n) = at_marks c t (λ u. negated_mark c u n) (λ u. negated_mark c u n) (negated_pair c n)
pair_at c t (machine.listing shape) = at_marks c t (λ u. square_mark true c u (list shape tree.no_expr) machine.list_open)
    (λ u. square_mark false c u (list shape tree.no_expr) machine.list_open) (square_pair c (list shape tree.no_expr) machine.list_open)
pair_at c t machine.list_open = list_pair c t
pair_at c t machine.timing = at_marks c t (λ u. square_mark true c u (timecat tree.no_part) machine.parts_open)
    (λ u. square_mark false c u (timecat tree.no_part) machine.parts_open) (square_pair c (timecat tree.no_part) machine.parts_open)
pair_at c t machine.parts_open = at_marks c t (λ u. parts_mark true c u) (λ u. parts_mark false c u) (parts_pair c)
pair_at c t machine.part_wanted = at_marks c t (λ u. part_mark true c u) (λ u. part_mark false c u) (part_pair c)
pair_at c t machine.part_read = at_marks c t (λ u. part_read_mark c u) (λ u. part_read_mark c u) (part_read_pair c)
pair_at c t machine.weighing = weight_pair c t
pair_at c t (machine.weighted n) = at_marks c t (λ u. weighed_mark c u n) (λ u. weighed_mark c u n) (weighed_pair c n)
pair_at c t (machine.asking_ratio spot call) = ratio_pair c t spot call
pair_at c t (machine.asking_count spot call) = count_pair c t spot call
pair_at c t (machine.asking_bools spot f) = bools_pair c t spot f
pair_at c t (machine.asking_fun spot call) = argument_pair c t spot call
pair_at c t (machine.asking_bounds spot) = at_marks c t (λ u. bounds_mark true c u spot) (λ u. bounds_mark false c u spot) (bounds_pair c spot)
pair_at c t (machine.bounding from) = bound_pair c t from
pair_at c t (machine.bounded from p) = at_marks c t (λ u. bounded_mark c u from p) (λ u. bounded_mark c u from p) (bounded_pair c from p)
pair_at c t machine.fraction = fraction_pair c t
pair_at c t machine.minus = minus_pair c t
pair_at c t (machine.above negative n at) = at_marks c t (λ u. above_mark true c u negative n at) (λ u. above_mark false c u negative n at)
    (above_mark_pair c negative n at)
pair_at c t (machine.slash negative a) = slash_pair c t negative a
pair_at c t (machine.closing p) = at_marks c t (λ u. closing_mark c u p) (λ u. closing_mark c u p) (closing_pair c p)

pub pair : (s : State) (t : Tok) → Pair s.core.read s.core.depth t (taken true s t) (taken false s t)
pair s t = pair_at s.core t s.stage

-- ---- what a pair says
same_ok : (n d : ℕ) (t : Tok) (r u : Step) (f : State) → Pair n d t r u → r ≡ Ok f → u ≡ Ok f
same_ok n d t r u f h e = subst (λ (x : Step). Onward n x u) e h.onward

pub untested : (s f : State) (t : Tok) → taken true s t ≡ Ok f → taken false s t ≡ Ok f
untested s f t e = same_ok s.core.read s.core.depth t (taken true s t) (taken false s t) f (pair s t) e

pub is_counted : (s f : State) (t : Tok) → taken false s t ≡ Ok f → f.core.read ≡ suc s.core.read
is_counted s f t e = subst (Counted s.core.read s.core.depth t) e (pair s t).counted

pub refuses : (s : State) (t : Tok) (kind : LineKind) (at : Place) → taken true s t ≡ Err (wrong kind at) → taken false s t ≡ Err (wrong kind at)
refuses s t kind at e = subst (λ (x : Step). Onward s.core.read x (taken false s t)) e (pair s t).onward
