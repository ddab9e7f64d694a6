-- From each stage of a state that is reached tokens lead to the end of a text.
--     state_ends       they do
use Rattle.std.proofs.Common.{ℕ, suc, Bool, true, false, Option, Some, None, List, [], ◌∷◌, IsTrue, refl}
use Rattle.tdl_control.specs.declared.keys.Key.{Key}
use Rattle.tdl_mini_tree.specs.declared.leaves.Number.{Number}
use Rattle.tdl_command.specs.declared.names.BareFun.TheVariants.{Rev}
use Rattle.tdl_mini_tree.specs.declared.leaves.Kind.TheVariants.{Bool as Truths}
use Rattle.tdl_command.specs.declared.names.BoolsFun.{BoolsFun}
use Rattle.tdl_command.specs.declared.names.CycleFun.{CycleFun}
use Rattle.tdl_command.specs.declared.names.Shape.{Shape}
use Rattle.tdl_line_machine.specs.declared.marks.Mark.TheVariants as mark
use Rattle.tdl_command.specs.declared.marks.Way.{Way}
use Rattle.tdl_command.specs.declared.marks.Way.TheVariants as way
use Rattle.tdl_command.specs.declared.tree.Plain.{Plain}
use Rattle.tdl_command.specs.declared.tree.Plain.TheVariants.{Bare, Signed, Quotient}
use Rattle.tdl_line_machine.specs.Tokens.{Tok, number, quoted, end}
use Rattle.tdl_line_machine.specs.Tokens as token
use Rattle.tdl_command.specs.Rules.{kind_of}
use Rattle.tdl_command.specs.Tree as tree
use Rattle.tdl_command.specs.Tree.{Ratio, Fun, Line}
use Rattle.tdl_line_machine.specs.Machine.States.{Spot, first, at_operand, after_dot, CountCall, count_of, every_in, cycles_of, cycles_from, hits_of}
use Rattle.tdl_line_machine.specs.Machine.States.{steps_of}
use Rattle.tdl_line_machine.specs.Machine.States.{off_hits, off_steps, off_from, FunCall, within_of, Called, wants_count, wants_fun, made_of, Pending, shifts}
use Rattle.tdl_line_machine.specs.Machine.States.{Bracketed, anything}
use Rattle.tdl_line_machine.specs.Machine.States.{expr_or_number, fun_or_number, Hole, round, measure, bounds, bound, setting, list, timecat}
use Rattle.tdl_line_machine.specs.Machine.States.{unweighed}
use Rattle.tdl_line_machine.specs.Machine.Calls.{called, with_ratio, with_count}
use Rattle.tdl_line_machine.specs.Machine.Open.{has_exprs}
use Rattle.tdl_line_machine.specs.Machine.States.{weighed, Frame, Stage, Core, State}
use Rattle.tdl_line_machine.specs.Machine.Calls.{with_fun}
use Rattle.tdl_line_machine.specs.Machine.Open.{closed}
use Rattle.tdl_line_machine.specs.Machine.{taken}
use Rattle.tdl_line_machine.specs.Machine.Lists.{empty_hole, parts_hole}
use Rattle.tdl_line_machine.specs.Machine.Settings.{setting_hole}
use Rattle.tdl_line_machine.specs.Machine.Arguments.{number_hole, number_closed}
use Rattle.tdl_line_machine.specs.Machine.Functions.{pending_before}
use Rattle.tdl_line_machine.specs.Machine.Expressions.{operand}
use Rattle.tdl_line_machine.specs.Machine as machine
use Rattle.tdl_line_grammar.proofs.Reached.{IsBounds, IsSetting, IsList, IsTimecat, IsUnweighed, TakesNumber, Top, Open, SpotFits, HoleFits, Fits, StageFits}
use Rattle.tdl_line_grammar.proofs.Reached.{Reached}
use Rattle.tdl_line_grammar.proofs.Reaching.{open_exprs}
use Rattle.tdl_line_grammar.proofs.Closing.{core, at, frame, Ends, EndsBy, one, silence, rev, close, close_square, nothing, untrue, by_token, goes}
use Rattle.tdl_line_grammar.proofs.Closing.{at_last, chosen}
use Rattle.tdl_line_grammar.proofs.Closing.{either_way, first_ends, second_ends, alone_ends, closes, below}
use Rattle.tdl_line_machine.specs.declared.calls.RatioCall.{RatioCall}

-- ---- what is asked for
read_operand : (c : Core) (e : tree.Expr) → Fits c.frames c.depth → Open c.frames c.level → IsTrue (has_exprs c.frames) → EndsBy (operand c e)
read_operand c e fits open_ h = (closes c.frames).operand_ c.level c.depth c.front c.read e fits h open_.inner

read_fun : (c : Core) (spot : Spot) (f : Fun) → Fits c.frames c.depth → Open c.frames c.level → SpotFits spot c.frames → EndsBy (machine.made c spot f)
read_fun c spot f fits open_ h = (closes c.frames).made_ c.level c.depth c.front c.read spot f fits open_ h

fun_asked : (c : Core) (spot : Spot) (call : FunCall) → Fits c.frames c.depth → Open c.frames c.level → SpotFits spot c.frames
    → Ends (at c (machine.asking_fun spot call))
fun_asked c spot call fits open_ h = by_token (at c (machine.asking_fun spot call)) rev (read_fun c spot (with_fun call (tree.bare Rev)) fits open_ h)

-- a count, whatever follows it
counted : (c : Core) (spot : Spot) (call : CountCall) → EndsBy (called c spot (with_count call (tree.whole 1))) → Ends (at c (machine.asking_count spot call))
counted c spot call h = by_token (at c (machine.asking_count spot call)) (number one) h

then_fun : (c : Core) (spot : Spot) (call : FunCall) → Fits c.frames c.depth → Open c.frames c.level → SpotFits spot c.frames
    → EndsBy (called c spot (wants_fun call))
then_fun c spot call fits open_ h = goes (at (machine.read_on c) (machine.asking_fun spot call)) (fun_asked (machine.read_on c) spot call fits open_ h)

then_count : (c : Core) (spot : Spot) (call : CountCall) → Ends (at (machine.read_on c) (machine.asking_count spot call))
    → EndsBy (called c spot (wants_count call))
then_count c spot call h = goes (at (machine.read_on c) (machine.asking_count spot call)) h

cycles_asked : (c : Core) (spot : Spot) (g : CycleFun) (n : tree.Count) → Fits c.frames c.depth → Open c.frames c.level → SpotFits spot c.frames
    → Ends (at c (machine.asking_count spot (cycles_from g n)))
cycles_asked c spot g n fits open_ h = counted c spot (cycles_from g n) (then_fun c spot (machine.cycle_of g n (tree.whole 1)) fits open_ h)

steps_asked : (c : Core) (spot : Spot) (k : tree.Count) → Fits c.frames c.depth → Open c.frames c.level → SpotFits spot c.frames
    → Ends (at c (machine.asking_count spot (steps_of k)))
steps_asked c spot k fits open_ h = counted c spot (steps_of k) (read_fun c spot (tree.euclid k (tree.whole 1)) fits open_ h)

from_asked : (c : Core) (spot : Spot) (k n : tree.Count) → Fits c.frames c.depth → Open c.frames c.level → SpotFits spot c.frames
    → Ends (at c (machine.asking_count spot (off_from k n)))
from_asked c spot k n fits open_ h = counted c spot (off_from k n) (read_fun c spot (tree.euclid_off k n (tree.whole 1)) fits open_ h)

off_asked : (c : Core) (spot : Spot) (k : tree.Count) → Fits c.frames c.depth → Open c.frames c.level → SpotFits spot c.frames
    → Ends (at c (machine.asking_count spot (off_steps k)))
off_asked c spot k fits open_ h =
    counted c spot (off_steps k) (then_count c spot (off_from k (tree.whole 1)) (from_asked (machine.read_on c) spot k (tree.whole 1) fits open_ h))

count_asked : (c : Core) (spot : Spot) (call : CountCall) → Fits c.frames c.depth → Open c.frames c.level → SpotFits spot c.frames
    → Ends (at c (machine.asking_count spot call))
count_asked c spot (count_of f) fits open_ h = counted c spot (count_of f) (read_fun c spot (tree.of_count f (tree.whole 1)) fits open_ h)
count_asked c spot every_in fits open_ h = counted c spot every_in (then_fun c spot (machine.every_of (tree.whole 1)) fits open_ h)
count_asked c spot (cycles_of g) fits open_ h =
    counted c spot (cycles_of g) (then_count c spot (cycles_from g (tree.whole 1)) (cycles_asked (machine.read_on c) spot g (tree.whole 1) fits open_ h))
count_asked c spot (cycles_from g n) fits open_ h = cycles_asked c spot g n fits open_ h
count_asked c spot hits_of fits open_ h =
    counted c spot hits_of (then_count c spot (steps_of (tree.whole 1)) (steps_asked (machine.read_on c) spot (tree.whole 1) fits open_ h))
count_asked c spot (steps_of k) fits open_ h = steps_asked c spot k fits open_ h
count_asked c spot off_hits fits open_ h =
    counted c spot off_hits (then_count c spot (off_steps (tree.whole 1)) (off_asked (machine.read_on c) spot (tree.whole 1) fits open_ h))
count_asked c spot (off_steps k) fits open_ h = off_asked c spot k fits open_ h
count_asked c spot (off_from k n) fits open_ h = from_asked c spot k n fits open_ h

called_ends : (c : Core) (spot : Spot) (call : Called) → Fits c.frames c.depth → Open c.frames c.level → SpotFits spot c.frames
    → EndsBy (called c spot call)
called_ends c spot (wants_count call) fits open_ h = then_count c spot call (count_asked (machine.read_on c) spot call fits open_ h)
called_ends c spot (wants_fun call) fits open_ h = then_fun c spot call fits open_ h
called_ends c spot (made_of f) fits open_ h = read_fun c spot f fits open_ h

ratio_asked : (c : Core) (spot : Spot) (call : RatioCall) → Fits c.frames c.depth → Open c.frames c.level → SpotFits spot c.frames
    → Ends (at c (machine.asking_ratio spot call))
ratio_asked c spot call fits open_ h =
    by_token (at c (machine.asking_ratio spot call)) (number one) (called_ends c spot (with_ratio call (tree.plain (Bare one))) fits open_ h)

bools_asked : (c : Core) (spot : Spot) (f : BoolsFun) → Fits c.frames c.depth → Open c.frames c.level → SpotFits spot c.frames
    → Ends (at c (machine.asking_bools spot f))
bools_asked c spot f fits open_ h =
    by_token (at c (machine.asking_bools spot f)) (quoted nothing) (read_fun c spot (tree.of_bools f (nothing Truths)) fits open_ h)

-- ---- `within`
bounded_second : (c : Core) (a b : Plain) → Fits c.frames c.depth → Top IsBounds c.frames → Ends (at c (machine.bounded (Some a) b))
bounded_second c a b fits top = by_token (at c (machine.bounded (Some a) b)) close (by_frames c.frames fits top)
  where
    by_hole : (l : List Pending) (d : ℕ) (hole : Hole) (frames : List Frame) → HoleFits hole l frames → Fits frames d → IsBounds hole
        → EndsBy (machine.bounds_hole close a b (core frames l d c.front c.read) hole)
    by_hole l d (bounds spot) frames h fits top = then_fun (core frames l d c.front c.read) spot (within_of a b) fits h.0 h.1
    by_hole l d hole frames h fits top = absurd top

    by_frames : (frames : List Frame) → Fits frames c.depth → Top IsBounds frames → EndsBy (closed frames c close (machine.bounds_hole close a b))
    by_frames [] fits top = absurd top
    by_frames (f ∷ frames) fits top = by_hole f.level f.depth f.hole frames fits.1 fits.2 top

bounding_second : (c : Core) (a : Plain) → Fits c.frames c.depth → Top IsBounds c.frames → Ends (at c (machine.bounding (Some a)))
bounding_second c a fits top =
    by_token (at c (machine.bounding (Some a))) (number one)
    (goes (at (machine.read_on c) (machine.bounded (Some a) (Bare one))) (bounded_second (machine.read_on c) a (Bare one) fits top))

bounded_ends : (c : Core) (from : Option Plain) (p : Plain) → Fits c.frames c.depth → Top IsBounds c.frames → Ends (at c (machine.bounded from p))
bounded_ends c None a fits top =
    by_token (at c (machine.bounded None a)) (token.mark mark.Comma)
    (goes (at (machine.read_on c) (machine.bounding (Some a))) (bounding_second (machine.read_on c) a fits top))
bounded_ends c (Some a) b fits top = bounded_second c a b fits top

bounding_ends : (c : Core) (from : Option Plain) → Fits c.frames c.depth → Top IsBounds c.frames → Ends (at c (machine.bounding from))
bounding_ends c None fits top =
    by_token (at c (machine.bounding None)) (number one)
    (goes (at (machine.read_on c) (machine.bounded None (Bare one))) (bounded_ends (machine.read_on c) None (Bare one) fits top))
bounding_ends c (Some a) fits top = bounding_second c a fits top

bounds_asked : (c : Core) (spot : Spot) → Fits c.frames c.depth → Open c.frames c.level → SpotFits spot c.frames → Ends (at c (machine.asking_bounds spot))
bounds_asked c spot fits open_ h =
    let inner : Core = core (frame c.level c.depth (bounds spot) ∷ c.frames) [] (suc c.depth) c.front (suc c.read) in
    by_token (at c (machine.asking_bounds spot)) (token.mark mark.OpenRound)
    (goes (at inner (machine.bounding None)) (bounding_ends inner None (refl, (open_, h), fits) tt))

-- ---- something begins
wanting_ends : (c : Core) (spot : Spot) → Fits c.frames c.depth → Open c.frames c.level → SpotFits spot c.frames → Ends (at c (machine.wanting spot))
wanting_ends c first fits open_ h =
    either_way (at c (machine.wanting first)) (has_exprs c.frames)
    (λ e. first_ends c.frames (closes c.frames).operand_ c.level c.depth c.front c.read fits e open_.inner)
    (λ e. by_token (at c (machine.wanting first)) rev (read_fun c first (tree.bare Rev) fits open_ tt))
wanting_ends c at_operand fits open_ h = second_ends c.frames (closes c.frames).operand_ c.level c.depth c.front c.read fits h open_.inner
wanting_ends c (after_dot g) fits open_ h = by_token (at c (machine.wanting (after_dot g))) rev (read_fun c (after_dot g) (tree.bare Rev) fits open_ tt)

opening_ends : (c : Core) → Fits c.frames c.depth → Open c.frames c.level → Ends (at c machine.opening)
opening_ends c fits open_ =
    either_way (at c machine.opening) (has_exprs c.frames)
    (λ e. by_token (at c machine.opening) silence
    (chosen (has_exprs c.frames) (operand c tree.silence) (machine.refused c silence) e (read_operand c tree.silence fits open_ e)))
    (λ e. by_token (at c machine.opening) rev (read_fun c first (tree.bare Rev) fits open_ tt))

-- ---- ratios
shifted_ends : (c : Core) (r : Ratio) (w : Way) → Fits c.frames c.depth → Open c.frames c.level → Ends (at c (machine.shifted r w))
shifted_ends c r w fits open_ =
    let pending : Core = machine.with_level c (shifts r w ∷ c.level) in
    either_way (at c (machine.shifted r w)) (has_exprs c.frames)
    (λ e. by_token (at c (machine.shifted r w)) silence
    (chosen (has_exprs c.frames) (machine.wanted false pending silence at_operand) (machine.refused c silence) e
    (chosen (has_exprs c.frames) (operand pending tree.silence) (machine.refused pending silence) e
    (read_operand pending tree.silence fits (open_exprs c.frames (shifts r w ∷ c.level) open_.inner e) e))))
    (λ e. by_token (at c (machine.shifted r w)) close
    (alone_ends c.frames (below c.frames) c.level c.depth c.front c.read (tree.shift r w) (pending_before false c close (shifts r w)) fits open_ e))

measured_ends : (c : Core) (r : Ratio) → Fits c.frames c.depth → Open c.frames c.level → Ends (at c (machine.measured r))
measured_ends c r fits open_ =
    by_token (at c (machine.measured r)) (token.mark (mark.Shift way.Later))
    (goes (at (machine.read_on c) (machine.shifted r way.Later)) (shifted_ends (machine.read_on c) r way.Later fits open_))

opened_ends : (c : Core) (n : Number) (from : ℕ) → Fits c.frames c.depth → Open c.frames c.level → Ends (at c (machine.opened n from))
opened_ends c n from fits open_ =
    by_token (at c (machine.opened n from)) (token.mark (mark.Shift way.Later))
    (goes (at (machine.read_on c) (machine.shifted (tree.plain (Bare n)) way.Later))
    (shifted_ends (machine.read_on c) (tree.plain (Bare n)) way.Later fits open_))

number_ends : (c : Core) (p : Plain) → Fits c.frames c.depth → Top TakesNumber c.frames → EndsBy (number_closed c close p)
number_ends c p fits top = by_frames c.frames fits top
  where
    by_round : (l : List Pending) (d : ℕ) (r : Bracketed) (frames : List Frame) → Open frames l → Fits frames d → IsTrue (machine.round_has_numbers r)
        → EndsBy (number_hole close p (core frames l d c.front c.read) (round r))
    by_round l d anything frames open_ fits top =
        goes (at (core frames l d c.front (suc c.read)) (machine.measured (tree.plain p)))
        (measured_ends (core frames l d c.front (suc c.read)) (tree.plain p) fits open_)
    by_round l d expr_or_number frames open_ fits top =
        goes (at (core frames l d c.front (suc c.read)) (machine.measured (tree.plain p)))
        (measured_ends (core frames l d c.front (suc c.read)) (tree.plain p) fits open_)
    by_round l d fun_or_number frames open_ fits top =
        goes (at (core frames l d c.front (suc c.read)) (machine.measured (tree.plain p)))
        (measured_ends (core frames l d c.front (suc c.read)) (tree.plain p) fits open_)
    by_round l d r frames open_ fits top = absurd (untrue top)

    by_hole : (l : List Pending) (d : ℕ) (hole : Hole) (frames : List Frame) → HoleFits hole l frames → Fits frames d → TakesNumber hole
        → EndsBy (number_hole close p (core frames l d c.front c.read) hole)
    by_hole l d (round r) frames h fits top = by_round l d r frames h.0 fits top
    by_hole l d (measure spot call) frames h fits top = called_ends (core frames l d c.front c.read) spot (with_ratio call (tree.plain p)) fits h.0 h.1
    by_hole l d (bound from) frames h fits top =
        goes (at (core frames l d c.front (suc c.read)) (machine.bounded from p)) (bounded_ends (core frames l d c.front (suc c.read)) from p fits h)
    by_hole l d hole frames h fits top = absurd top

    by_frames : (frames : List Frame) → Fits frames c.depth → Top TakesNumber frames → EndsBy (closed frames c close (number_hole close p))
    by_frames [] fits top = absurd top
    by_frames (f ∷ frames) fits top = by_hole f.level f.depth f.hole frames fits.1 fits.2 top

above_ends : (c : Core) (negative : Bool) (n : Number) (from : ℕ) → Fits c.frames c.depth → Top TakesNumber c.frames
    → Ends (at c (machine.above negative n from))
above_ends c negative n from fits top = by_token (at c (machine.above negative n from)) close (number_ends c (Signed negative n) fits top)

closing_ends : (c : Core) (p : Plain) → Fits c.frames c.depth → Top TakesNumber c.frames → Ends (at c (machine.closing p))
closing_ends c p fits top = by_token (at c (machine.closing p)) close (number_ends c p fits top)

fraction_ends : (c : Core) → Fits c.frames c.depth → Top TakesNumber c.frames → Ends (at c machine.fraction)
fraction_ends c fits top =
    by_token (at c machine.fraction) (number one)
    (goes (at (machine.read_on c) (machine.above false one c.read)) (above_ends (machine.read_on c) false one c.read fits top))

minus_ends : (c : Core) → Fits c.frames c.depth → Top TakesNumber c.frames → Ends (at c machine.minus)
minus_ends c fits top =
    by_token (at c machine.minus) (number one)
    (goes (at (machine.read_on c) (machine.above true one c.read)) (above_ends (machine.read_on c) true one c.read fits top))

slash_ends : (c : Core) (negative : Bool) (a : Number) → Fits c.frames c.depth → Top TakesNumber c.frames → Ends (at c (machine.slash negative a))
slash_ends c negative a fits top =
    by_token (at c (machine.slash negative a)) (number one)
    (goes (at (machine.read_on c) (machine.closing (Quotient negative a one))) (closing_ends (machine.read_on c) (Quotient negative a one) fits top))

-- ---- keys
keyed_ends : (c : Core) (key : Key) → Fits c.frames c.depth → Open c.frames c.level → IsTrue (has_exprs c.frames) → Ends (at c (machine.keyed key))
keyed_ends c key fits open_ h =
    by_token (at c (machine.keyed key)) (quoted nothing) (read_operand c (tree.control key (tree.quoted (nothing (kind_of key)))) fits open_ h)

negated_ends : (c : Core) (n : Number) → Fits c.frames c.depth → Top IsSetting c.frames → Ends (at c (machine.negated n))
negated_ends c n fits top = by_token (at c (machine.negated n)) close (by_frames c.frames fits top)
  where
    by_hole : (l : List Pending) (d : ℕ) (hole : Hole) (frames : List Frame) → HoleFits hole l frames → Fits frames d → IsSetting hole
        → EndsBy (setting_hole close n (core frames l d c.front c.read) hole)
    by_hole l d (setting key) frames h fits top = read_operand (core frames l d c.front c.read) (tree.control key (tree.negative n)) fits h.0 h.1
    by_hole l d hole frames h fits top = absurd top

    by_frames : (frames : List Frame) → Fits frames c.depth → Top IsSetting frames → EndsBy (closed frames c close (setting_hole close n))
    by_frames [] fits top = absurd top
    by_frames (f ∷ frames) fits top = by_hole f.level f.depth f.hole frames fits.1 fits.2 top

negating_ends : (c : Core) → Fits c.frames c.depth → Top IsSetting c.frames → Ends (at c machine.negating)
negating_ends c fits top =
    by_token (at c machine.negating) (number one) (goes (at (machine.read_on c) (machine.negated one)) (negated_ends (machine.read_on c) one fits top))

set_ends : (c : Core) → Fits c.frames c.depth → Top IsSetting c.frames → Ends (at c machine.set)
set_ends c fits top =
    by_token (at c machine.set) (token.mark mark.Minus) (goes (at (machine.read_on c) machine.negating) (negating_ends (machine.read_on c) fits top))

-- ---- lists
list_ends : (c : Core) → Fits c.frames c.depth → Top IsList c.frames → Ends (at c machine.list_open)
list_ends c fits top = by_token (at c machine.list_open) close_square (by_frames c.frames fits top)
  where
    by_hole : (l : List Pending) (d : ℕ) (hole : Hole) (frames : List Frame) → HoleFits hole l frames → Fits frames d → IsList hole
        → EndsBy (empty_hole close_square (core frames l d c.front c.read) hole)
    by_hole l d (list shape es) frames h fits top = read_operand (core frames l d c.front c.read) (tree.list shape es) fits h.0 h.1
    by_hole l d hole frames h fits top = absurd top

    by_frames : (frames : List Frame) → Fits frames c.depth → Top IsList frames → EndsBy (closed frames c close_square (empty_hole close_square))
    by_frames [] fits top = absurd top
    by_frames (f ∷ frames) fits top = by_hole f.level f.depth f.hole frames fits.1 fits.2 top

listing_ends : (c : Core) (shape : Shape) → Fits c.frames c.depth → Open c.frames c.level → IsTrue (has_exprs c.frames) → Ends (at c (machine.listing shape))
listing_ends c shape fits open_ h =
    let inner : Core = core (frame c.level c.depth (list shape tree.no_expr) ∷ c.frames) [] (suc c.depth) c.front (suc c.read) in
    by_token (at c (machine.listing shape)) (token.mark mark.OpenSquare)
    (goes (at inner machine.list_open) (list_ends inner (refl, (open_, h), fits) tt))

-- the `]` of `timecat`
parts_end : (c : Core) → Fits c.frames c.depth → Top IsTimecat c.frames → EndsBy (closed c.frames c close_square (parts_hole close_square))
parts_end c fits top = by_frames c.frames fits top
  where
    by_hole : (l : List Pending) (d : ℕ) (hole : Hole) (frames : List Frame) → HoleFits hole l frames → Fits frames d → IsTimecat hole
        → EndsBy (parts_hole close_square (core frames l d c.front c.read) hole)
    by_hole l d (timecat ps) frames h fits top = read_operand (core frames l d c.front c.read) (tree.timecat ps) fits h.0 h.1
    by_hole l d hole frames h fits top = absurd top

    by_frames : (frames : List Frame) → Fits frames c.depth → Top IsTimecat frames → EndsBy (closed frames c close_square (parts_hole close_square))
    by_frames [] fits top = absurd top
    by_frames (f ∷ frames) fits top = by_hole f.level f.depth f.hole frames fits.1 fits.2 top

timing_ends : (c : Core) → Fits c.frames c.depth → Open c.frames c.level → IsTrue (has_exprs c.frames) → Ends (at c machine.timing)
timing_ends c fits open_ h =
    let inner : Core = core (frame c.level c.depth (timecat tree.no_part) ∷ c.frames) [] (suc c.depth) c.front (suc c.read) in
    by_token (at c machine.timing) (token.mark mark.OpenSquare)
    (goes (at inner machine.parts_open) (by_token (at inner machine.parts_open) close_square (parts_end inner (refl, (open_, h), fits) tt)))

weighted_ends : (c : Core) (n : Number) → Fits c.frames c.depth → Top IsUnweighed c.frames → Ends (at c (machine.weighted n))
weighted_ends c n fits top = by_token (at c (machine.weighted n)) (token.mark mark.Comma) (by_frames c.frames fits top)
  where
    by_hole : (l : List Pending) (d : ℕ) (hole : Hole) (frames : List Frame) → Fits (frame l d hole ∷ frames) c.depth → IsUnweighed hole
        → EndsBy (machine.weighed_hole c.depth n (core frames l d c.front c.read) hole)
    by_hole l d unweighed frames fits top =
        let inner : Core = core (frame l d (weighed n) ∷ frames) [] c.depth c.front (suc c.read) in
        goes (at inner (machine.wanting first)) (wanting_ends inner first (fits.0, fits.1, fits.2) (record { inner = tt; alone = refl }) tt)
    by_hole l d hole frames fits top = absurd top

    by_frames : (frames : List Frame) → Fits frames c.depth → Top IsUnweighed frames
        → EndsBy (closed frames c (token.mark mark.Comma) (machine.weighed_hole c.depth n))
    by_frames [] fits top = absurd top
    by_frames (f ∷ frames) fits top = by_hole f.level f.depth f.hole frames fits top

weighing_ends : (c : Core) → Fits c.frames c.depth → Top IsUnweighed c.frames → Ends (at c machine.weighing)
weighing_ends c fits top =
    by_token (at c machine.weighing) (number one) (goes (at (machine.read_on c) (machine.weighted one)) (weighted_ends (machine.read_on c) one fits top))

part_wanted_ends : (c : Core) → Fits c.frames c.depth → Top IsTimecat c.frames → Ends (at c machine.part_wanted)
part_wanted_ends c fits top =
    let inner : Core = core (frame c.level c.depth unweighed ∷ c.frames) [] (suc c.depth) c.front (suc c.read) in
    by_token (at c machine.part_wanted) (token.mark mark.OpenRound) (goes (at inner machine.weighing) (weighing_ends inner (refl, top, fits) tt))

-- ---- lines
done_ends : (c : Core) (l : Line) → Ends (at c (machine.done l))
done_ends c l =
    let last : State = at (machine.read_on c) (machine.ended (tree.line l)) in
    by_token (at c (machine.done l)) end (goes last (at_last last refl))

jumped_ends : (c : Core) (n every : ℕ) → Fits c.frames c.depth → Open c.frames c.level → Ends (at c (machine.jumped n every))
jumped_ends c n every fits open_ =
    let inner : Core = machine.read_on (machine.with_front c (machine.jumps n every)) in
    by_token (at c (machine.jumped n every)) (token.mark mark.Dollar) (goes (at inner (machine.wanting first)) (wanting_ends inner first fits open_ tt))

jumping_at_ends : (c : Core) (n : ℕ) → Fits c.frames c.depth → Open c.frames c.level → Ends (at c (machine.jumping_at n))
jumping_at_ends c n fits open_ =
    by_token (at c (machine.jumping_at n)) (number one) (goes (at (machine.read_on c) (machine.jumped n 1)) (jumped_ends (machine.read_on c) n 1 fits open_))

at_ends : (c : Core) (p : Stage) → Fits c.frames c.depth → StageFits p c.frames c.level → Ends (at c p)
at_ends c machine.beginning fits h =
    let last : State = at (machine.read_on c) (machine.ended (tree.line tree.nothing)) in
    by_token (at c machine.beginning) end (goes last (at_last last refl))
at_ends c (machine.flagging f) fits h =
    by_token (at c (machine.flagging f)) (number one)
    (goes (at (machine.read_on c) (machine.done (tree.flag f 1))) (done_ends (machine.read_on c) (tree.flag f 1)))
at_ends c (machine.addressed o) fits h =
    by_token (at c (machine.addressed o)) silence (goes (at (machine.read_on c) (machine.done (tree.still o))) (done_ends (machine.read_on c) (tree.still o)))
at_ends c machine.jumping fits h =
    by_token (at c machine.jumping) (number one) (goes (at (machine.read_on c) (machine.jumping_at 1)) (jumping_at_ends (machine.read_on c) 1 fits h))
at_ends c (machine.jumping_at n) fits h = jumping_at_ends c n fits h
at_ends c (machine.jumped n every) fits h = jumped_ends c n every fits h
at_ends c (machine.done l) fits h = done_ends c l
at_ends c (machine.ended w) fits h = at_last (at c (machine.ended w)) refl
at_ends c (machine.wanting spot) fits h = wanting_ends c spot fits h.0 h.1
at_ends c machine.opening fits h = opening_ends c fits h
at_ends c (machine.opened n from) fits h = opened_ends c n from fits h
at_ends c (machine.measured r) fits h = measured_ends c r fits h
at_ends c (machine.shifted r w) fits h = shifted_ends c r w fits h
at_ends c (machine.expressed e) fits h = (closes c.frames).expr c.level c.depth c.front c.read e fits h.1 h.0.inner h.2
at_ends c (machine.named f) fits h = (closes c.frames).named c.level c.depth c.front c.read f fits h
at_ends c (machine.chained f) fits h = (closes c.frames).chained c.level c.depth c.front c.read f fits h
at_ends c (machine.keyed key) fits h = keyed_ends c key fits h.0 h.1
at_ends c machine.set fits h = set_ends c fits h
at_ends c machine.negating fits h = negating_ends c fits h
at_ends c (machine.negated n) fits h = negated_ends c n fits h
at_ends c (machine.listing shape) fits h = listing_ends c shape fits h.0 h.1
at_ends c machine.list_open fits h = list_ends c fits h
at_ends c machine.timing fits h = timing_ends c fits h.0 h.1
at_ends c machine.parts_open fits h = by_token (at c machine.parts_open) close_square (parts_end c fits h)
at_ends c machine.part_wanted fits h = part_wanted_ends c fits h
at_ends c machine.part_read fits h = by_token (at c machine.part_read) close_square (parts_end c fits h)
at_ends c machine.weighing fits h = weighing_ends c fits h
at_ends c (machine.weighted n) fits h = weighted_ends c n fits h
at_ends c (machine.asking_ratio spot call) fits h = ratio_asked c spot call fits h.0 h.1
at_ends c (machine.asking_count spot call) fits h = count_asked c spot call fits h.0 h.1
at_ends c (machine.asking_bools spot f) fits h = bools_asked c spot f fits h.0 h.1
at_ends c (machine.asking_fun spot call) fits h = fun_asked c spot call fits h.0 h.1
at_ends c (machine.asking_bounds spot) fits h = bounds_asked c spot fits h.0 h.1
at_ends c (machine.bounding from) fits h = bounding_ends c from fits h
at_ends c (machine.bounded from p) fits h = bounded_ends c from p fits h
at_ends c machine.fraction fits h = fraction_ends c fits h
at_ends c machine.minus fits h = minus_ends c fits h
at_ends c (machine.above negative n from) fits h = above_ends c negative n from fits h
at_ends c (machine.slash negative a) fits h = slash_ends c negative a fits h
at_ends c (machine.closing p) fits h = closing_ends c p fits h

pub state_ends : (s : State) → Reached s → Ends s
state_ends s h = at_ends s.core s.stage h.frames h.stage
