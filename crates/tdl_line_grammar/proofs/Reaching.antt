-- A token leads from a state that is reached to another.
--     keeps            a token
--     run-reached      several, and how many brackets are open after them
use Rattle.std.proofs.Common.{◌≡◌, ℕ, suc, Bool, true, false, if◌then◌else◌, ◌&&◌, Option, Some, None, Ok, List, [], ◌∷◌, IsTrue, refl, sym, ap, ◌∙◌, subst}
use Rattle.std.specs.Prelude.{◌||◌}
use Rattle.tdl_grammar.specs.Machine.{run}
use Rattle.tdl_grammar.proofs.Tests.{ok_is}
use Rattle.tdl_grammar.proofs.Runs as runs
use Rattle.tdl_control.specs.declared.keys.Key.{Key}
use Rattle.tdl_control.specs.Key.{takes_word}
use Rattle.tdl_mini_tree.specs.declared.leaves.Kind.TheVariants.{Bool as Truths, Count as Counts, Ratio as Ratios}
use Rattle.tdl_mini_tree.specs.declared.leaves.Number.{Number}
use Rattle.tdl_mini_tree.specs.Numbers.{is_whole}
use Rattle.tdl_line_machine.specs.declared.faults.LineKind.{LineKind}
use Rattle.tdl_line_machine.specs.declared.faults.LineKind.TheVariants.{BadOrbit, BadEvery}
use Rattle.tdl_line_machine.specs.declared.names.Name.{Name}
use Rattle.tdl_line_machine.specs.declared.names.Name.TheVariants as name
use Rattle.tdl_command.specs.declared.names.BoolsFun.{BoolsFun}
use Rattle.tdl_line_machine.specs.declared.marks.Mark.{Mark}
use Rattle.tdl_line_machine.specs.declared.marks.Mark.TheVariants as mark
use Rattle.tdl_command.specs.declared.marks.Way.{Way}
use Rattle.tdl_command.specs.declared.marks.Operator.{Operator}
use Rattle.tdl_command.specs.declared.tree.Plain.{Plain}
use Rattle.tdl_command.specs.declared.tree.Plain.TheVariants.{Bare, Signed, Quotient}
use Rattle.tdl_command.specs.Rules.{is_orbit, is_every, kind_of}
use Rattle.tdl_line_machine.specs.Tokens.{Tok, number, quoted, end}
use Rattle.tdl_line_machine.specs.Tokens as token
use Rattle.tdl_command.specs.Tree as tree
use Rattle.tdl_command.specs.Tree.{Ratio, Count, Expr, Fun, Line}
use Rattle.tdl_mini_tree.specs.Reading.{Reading}
use Rattle.tdl_mini_tree.specs.Reading as reading
use Rattle.tdl_line_machine.specs.declared.goals.Goal.{Goal}
use Rattle.tdl_line_machine.specs.declared.goals.Goal.TheVariants.{Line as a_line, Pattern as a_pattern}
use Rattle.tdl_line_machine.specs.WrongTokens.{opened, depth_from}
use Rattle.tdl_line_machine.specs.Machine.States.{Spot, first, at_operand, after_dot, CountCall, FunCall, Called, wants_count, wants_fun, made_of}
use Rattle.tdl_line_machine.specs.Machine.States.{Pending}
use Rattle.tdl_line_machine.specs.Machine.States.{applies, joins, calls, shifts, Bracketed, anything, expr_or_number, fun_or_number, fun_after, argument, Hole}
use Rattle.tdl_line_machine.specs.Machine.States.{round}
use Rattle.tdl_line_machine.specs.Machine.States.{section}
use Rattle.tdl_line_machine.specs.Machine.States.{measure, bounds, bound, setting, constant, list, timecat, unweighed, weighed, Frame, Front, Stage, Core}
use Rattle.tdl_line_machine.specs.Machine.States.{State}
use Rattle.tdl_line_machine.specs.Machine.States.{Step}
use Rattle.tdl_line_machine.specs.Machine.Open.{has_exprs, has_funs, has_numbers, pushed, popped}
use Rattle.tdl_line_machine.specs.Machine.States.{with_level, with_front, going, refused, reading}
use Rattle.tdl_line_machine.specs.Machine.Open.{closed}
use Rattle.tdl_line_machine.specs.Machine.Expressions.{with_pending}
use Rattle.tdl_line_machine.specs.Machine.Calls.{with_ratio, with_count, with_fun, made, called, in_round, in_hole, is_nil, may_close_fun, fun_closed}
use Rattle.tdl_line_machine.specs.Machine.Expressions.{applied}
use Rattle.tdl_line_machine.specs.Machine.Expressions.{operand_hole, operand_in, operand, round_at, may_begin_ratio}
use Rattle.tdl_line_machine.specs.Machine.Arguments.{number_hole, number_closed}
use Rattle.tdl_line_machine.specs.Machine.Expressions.{may_begin_operand, taken_name, wanted, section_hole, opening_mark, at_opening}
use Rattle.tdl_line_machine.specs.Machine.Arguments.{above_mark}
use Rattle.tdl_line_machine.specs.Machine.Arguments.{opened_mark, fraction_mark, at_fraction, at_minus, at_slash}
use Rattle.tdl_line_machine.specs.Machine.Expressions.{next_hole, list_hole, part_hole, expr_hole}
use Rattle.tdl_line_machine.specs.Machine.Expressions.{whole_of, at_end}
use Rattle.tdl_line_machine.specs.Machine.Functions.{chained_mark, after_fun, pending_before, named_mark, after_named, shifted_mark}
use Rattle.tdl_line_machine.specs.Machine.Expressions.{expressed_mark, after_expr}
use Rattle.tdl_line_machine.specs.Machine.Functions.{after_shift}
use Rattle.tdl_line_machine.specs.Machine.Arguments.{ratio_mark, at_ratio, is_unsigned, at_count, at_bools, argument_name, argument_mark}
use Rattle.tdl_line_machine.specs.Machine.Functions.{measured_mark}
use Rattle.tdl_line_machine.specs.Machine.Arguments.{at_argument, bounds_mark}
use Rattle.tdl_line_machine.specs.Machine.Lists.{empty_hole}
use Rattle.tdl_line_machine.specs.Machine.Settings.{setting_mark, at_key, at_negating, setting_hole}
use Rattle.tdl_line_machine.specs.Machine.Arguments.{bounding_mark, at_bound, bounds_hole, bounded_mark}
use Rattle.tdl_line_machine.specs.Machine.Lists.{list_mark}
use Rattle.tdl_line_machine.specs.Machine.Lines.{beginning_name}
use Rattle.tdl_line_machine.specs.Machine.Lists.{at_list, parts_hole, part_mark, parts_mark, part_read_mark, at_weight, weighed_hole, weighed_mark}
use Rattle.tdl_line_machine.specs.Machine.Lines.{at_beginning, at_whole, dollar_mark, addressed_name, at_addressed, at_done, at_mark, closing_mark, minus_mark}
use Rattle.tdl_line_machine.specs.Machine.{taken_at, taken}
use Rattle.tdl_line_machine.specs.Machine.Lines.{negated_mark, square_mark}
use Rattle.tdl_line_machine.specs.Machine.States.{first_state}
use Rattle.tdl_line_machine.specs.Machine as machine
use Rattle.tdl_line_grammar.proofs.Reached.{inside, IsInner, IsBounds, IsSetting, IsList, IsTimecat, IsUnweighed, TakesNumber, IsBracket, Top, TopOrNone, Open}
use Rattle.tdl_line_grammar.proofs.Reached.{SpotFits}
use Rattle.tdl_line_grammar.proofs.Reached.{RoundFits, HoleFits, Fits, StageFits, Reached, Keeps}
use Rattle.tdl_line_machine.specs.declared.calls.RatioCall.{RatioCall}
use Rattle.tdl_line_machine.specs.declared.calls.RatioCall.TheVariants as ratio_call

-- ---- tests of truth
either_way : (d : ℕ) (b : Bool) (r v : Step) → (IsTrue b → Keeps d r) → Keeps d v → Keeps d (if b then r else v)
either_way d true r v h k = h refl
either_way d false r v h k = k

second : (a b : Bool) → IsTrue (a && b) → IsTrue b
second true b h = h
second false b h = cc

-- what may be pending where expressions stand
pub open_exprs : (frames : List Frame) (level : List Pending) → TopOrNone IsInner frames → IsTrue (has_exprs frames) → Open frames level
open_exprs frames level inner h = record { inner = inner; alone = either (is_nil level) (has_exprs frames) h }
  where
    either : (a b : Bool) → IsTrue b → IsTrue (a || b)
    either true b k = refl
    either false b k = k

-- a text is read, whatever it is
read_keeps : (c : Core) (r : Reading) (next : Step) (d : ℕ) → Keeps d next → Keeps d (reading false c r next)
read_keeps c (reading.read k ls) next d h = h
read_keeps c (reading.unread fault at) next d h = h

-- ---- what goes on
stays : (c : Core) (p : Stage) → Fits c.frames c.depth → StageFits p c.frames c.level → Keeps c.depth (going c p)
stays c p fits h = (record { frames = fits; stage = h }, refl)

made_keeps : (c : Core) (spot : Spot) (f : Fun) → Fits c.frames c.depth → Open c.frames c.level → SpotFits spot c.frames → Keeps c.depth (made c spot f)
made_keeps c first f fits open_ h = stays c (machine.named f) fits open_
made_keeps c at_operand f fits open_ h =
    stays (with_level c (calls f ∷ c.level)) (machine.wanting at_operand) fits (open_exprs c.frames (calls f ∷ c.level) open_.inner h, h)
made_keeps c (after_dot g) f fits open_ h = stays c (machine.chained (tree.chain g f)) fits open_

called_keeps : (c : Core) (spot : Spot) (call : Called) → Fits c.frames c.depth → Open c.frames c.level → SpotFits spot c.frames
    → Keeps c.depth (called c spot call)
called_keeps c spot (wants_count call) fits open_ h = stays c (machine.asking_count spot call) fits (open_, h)
called_keeps c spot (wants_fun call) fits open_ h = stays c (machine.asking_fun spot call) fits (open_, h)
called_keeps c spot (made_of f) fits open_ h = made_keeps c spot f fits open_ h

operand_keeps : (c : Core) (e : Expr) → Fits c.frames c.depth → Open c.frames c.level → IsTrue (has_exprs c.frames) → Keeps c.depth (operand c e)
operand_keeps c e fits open_ h = by_frames c.frames fits open_.inner h
  where
    rest : Core
    rest = with_level c (with_pending c.level e).level

    by_hole : (f : Frame) (frames : List Frame) (hole : Hole) → f.hole ≡ hole → Fits (f ∷ frames) c.depth → IsInner f.hole
        → IsTrue (has_exprs (f ∷ frames))
        → Keeps c.depth (operand_hole (record { frames = f ∷ frames; level = rest.level; depth = c.depth; front = c.front; read = c.read }) f frames
        (with_pending c.level e).expr hole)
    by_hole f frames (constant spot) is fits inner h = moved (subst (λ (x : Hole). HoleFits x f.level frames) is fits.1)
        (subst (λ (x : Hole). c.depth ≡ inside x f.depth) is fits.0)
      where
        moved : HoleFits (constant spot) f.level frames → c.depth ≡ f.depth
            → Keeps c.depth (made (popped c f frames) spot (tree.const (with_pending c.level e).expr))
        moved k same = subst (λ (d : ℕ). Keeps d (made (popped c f frames) spot (tree.const (with_pending c.level e).expr))) (sym same)
            (made_keeps (popped c f frames) spot (tree.const (with_pending c.level e).expr) fits.2 k.0 k.1)
    by_hole f frames hole is fits inner h =
        stays (record { frames = f ∷ frames; level = rest.level; depth = c.depth; front = c.front; read = c.read })
        (machine.expressed (with_pending c.level e).expr) fits
        (open_exprs (f ∷ frames) rest.level inner h, h, subst IsBracket (sym is) tt)

    by_frames : (frames : List Frame) → Fits frames c.depth → TopOrNone IsInner frames → IsTrue (has_exprs frames)
        → Keeps c.depth (operand_in (record { frames = frames; level = rest.level; depth = c.depth; front = c.front; read = c.read }) frames
        (with_pending c.level e).expr)
    by_frames [] fits inner h =
        stays (record { frames = []; level = rest.level; depth = c.depth; front = c.front; read = c.read })
        (machine.expressed (with_pending c.level e).expr) fits
        (open_exprs [] rest.level inner h, h, tt)
    by_frames (f ∷ frames) fits inner h = by_hole f frames f.hole refl fits inner h

-- ---- brackets
opens : (c : Core) (hole : Hole) (p : Stage) → Fits c.frames c.depth → IsBracket hole → HoleFits hole c.level c.frames
    → StageFits p (record { level = c.level; depth = c.depth; hole = hole } ∷ c.frames) [] → Keeps (suc c.depth) (going (pushed c hole (suc c.depth)) p)
opens c hole p fits bracket h k = (record { frames = (one_more hole bracket, h, fits); stage = k }, refl)
  where
    one_more : (x : Hole) → IsBracket x → suc c.depth ≡ inside x c.depth
    one_more (constant spot) b = absurd b
    one_more x b = refl

abbrev IsClosing : Tok → Type 0
IsClosing t = (d : ℕ) → opened t (suc d) ≡ d

closes : (c : Core) (frames : List Frame) (t : Tok) (next : Core → Hole → Step) → Fits frames c.depth → IsClosing t
    → ((d : Core) (spot : Spot) (e : ℕ) → Keeps e (next d (constant spot)))
    → ((f : Frame) (others : List Frame) → frames ≡ f ∷ others → HoleFits f.hole f.level others → Fits others f.depth → Keeps f.depth
    (next (popped c f others) f.hole))
    → Keeps (opened t c.depth) (closed frames c t next)
closes c [] t next fits e none each = tt
closes c (f ∷ frames) t next fits e none each = by_hole f.hole fits.0 (each f frames refl fits.1 fits.2)
  where
    by_hole : (hole : Hole) → c.depth ≡ inside hole f.depth → Keeps f.depth (next (popped c f frames) hole)
        → Keeps (opened t c.depth) (next (popped c f frames) hole)
    by_hole (constant spot) same k = none (popped c f frames) spot (opened t c.depth)
    by_hole hole same k =
        subst (λ (d : ℕ). Keeps d (next (popped c f frames) hole)) (sym (ap (opened t) same ∙ e f.depth)) k

round_keeps : (c : Core) (t : Tok) (r : Bracketed) (f : Fun) → Fits c.frames c.depth → Open c.frames c.level → RoundFits r c.frames
    → Keeps c.depth (in_round c t r f)
round_keeps c t anything f fits open_ h = stays c (machine.chained f) fits open_
round_keeps c t expr_or_number f fits open_ h = tt
round_keeps c t fun_or_number f fits open_ h = stays c (machine.chained f) fits open_
round_keeps c t (fun_after g) f fits open_ h = stays c (machine.chained (tree.chain g f)) fits open_
round_keeps c t (argument spot call) f fits open_ h = made_keeps c spot (with_fun call f) fits open_ h

hole_keeps : (t : Tok) (f : Fun) (c : Core) (h : Hole) → HoleFits h c.level c.frames → Fits c.frames c.depth → Keeps c.depth (in_hole t f c h)
hole_keeps t f c (round r) h fits = round_keeps c t r f fits h.0 h.1
hole_keeps t f c h k fits = tt

fun_keeps : (c : Core) (f : Fun) → Fits c.frames c.depth
    → Keeps (opened (token.mark mark.CloseRound) c.depth) (closed c.frames c (token.mark mark.CloseRound) (in_hole (token.mark mark.CloseRound) f))
fun_keeps c f fits =
    closes c c.frames (token.mark mark.CloseRound) (in_hole (token.mark mark.CloseRound) f) fits (λ d. refl) (λ d spot e. tt)
    (λ g others is h k. hole_keeps (token.mark mark.CloseRound) f (popped c g others) g.hole h k)

expr_keeps : (t : Tok) (e : Expr) (c : Core) (h : Hole) → HoleFits h c.level c.frames → Fits c.frames c.depth → Keeps c.depth (expr_hole t e c h)
expr_keeps t e c (round anything) h fits = operand_keeps c (tree.inside e) fits h.0 h.1
expr_keeps t e c (round expr_or_number) h fits = operand_keeps c (tree.inside e) fits h.0 h.1
expr_keeps t e c (section r operator) h fits = round_keeps c t r (tree.section operator e) fits h.0 h.1
expr_keeps t e c (weighed n) h fits = by_frames c.frames h fits
  where
    by_hole : (g : Frame) (others : List Frame) (hole : Hole) → g.hole ≡ hole → Fits (g ∷ others) c.depth
        → Keeps c.depth (part_hole t c.depth n e (popped c g others) hole)
    by_hole g others (timecat ps) is fits = (
      record {
        frames = (subst (λ (x : Hole). c.depth ≡ inside x g.depth) is fits.0, subst (λ (x : Hole). HoleFits x g.level others) is fits.1, fits.2);
        stage = tt;
      },
      refl,
    )
    by_hole g others hole is fits = tt

    by_frames : (frames : List Frame) → Top IsTimecat frames → Fits frames c.depth → Keeps c.depth (closed frames c t (part_hole t c.depth n e))
    by_frames [] h fits = tt
    by_frames (g ∷ others) h fits = by_hole g others g.hole refl fits
expr_keeps t e c h k fits = tt

list_keeps : (t : Tok) (e : Expr) (c : Core) (h : Hole) → HoleFits h c.level c.frames → Fits c.frames c.depth → Keeps c.depth (list_hole t e c h)
list_keeps t e c (list shape es) h fits = operand_keeps c (tree.list shape (tree.further es e)) fits h.0 h.1
list_keeps t e c h k fits = tt

empty_keeps : (t : Tok) (c : Core) (h : Hole) → HoleFits h c.level c.frames → Fits c.frames c.depth → Keeps c.depth (empty_hole t c h)
empty_keeps t c (list shape es) h fits = operand_keeps c (tree.list shape es) fits h.0 h.1
empty_keeps t c h k fits = tt

parts_keeps : (t : Tok) (c : Core) (h : Hole) → HoleFits h c.level c.frames → Fits c.frames c.depth → Keeps c.depth (parts_hole t c h)
parts_keeps t c (timecat ps) h fits = operand_keeps c (tree.timecat ps) fits h.0 h.1
parts_keeps t c h k fits = tt

setting_keeps : (t : Tok) (n : Number) (c : Core) (h : Hole) → HoleFits h c.level c.frames → Fits c.frames c.depth → Keeps c.depth (setting_hole t n c h)
setting_keeps t n c (setting key) h fits = operand_keeps c (tree.control key (tree.negative n)) fits h.0 h.1
setting_keeps t n c h k fits = tt

bounds_keeps : (t : Tok) (a b : Plain) (c : Core) (h : Hole) → HoleFits h c.level c.frames → Fits c.frames c.depth → Keeps c.depth (bounds_hole t a b c h)
bounds_keeps t a b c (bounds spot) h fits = stays c (machine.asking_fun spot (machine.within_of a b)) fits h
bounds_keeps t a b c h k fits = tt

number_keeps : (t : Tok) (p : Plain) (c : Core) (h : Hole) → HoleFits h c.level c.frames → Fits c.frames c.depth → Keeps c.depth (number_hole t p c h)
number_keeps t p c (round anything) h fits = stays c (machine.measured (tree.plain p)) fits h.0
number_keeps t p c (round expr_or_number) h fits = stays c (machine.measured (tree.plain p)) fits h.0
number_keeps t p c (round fun_or_number) h fits = stays c (machine.measured (tree.plain p)) fits h.0
number_keeps t p c (measure spot call) h fits = called_keeps c spot (with_ratio call (tree.plain p)) fits h.0 h.1
number_keeps t p c (bound from) h fits = stays c (machine.bounded from p) fits h
number_keeps t p c h k fits = tt

-- a closing token, with what it does to what is open
shut : (c : Core) (t : Tok) (next : Core → Hole → Step) → Fits c.frames c.depth → IsClosing t
    → ((d : Core) (spot : Spot) (e : ℕ) → Keeps e (next d (constant spot)))
    → ((d : Core) (h : Hole) → HoleFits h d.level d.frames → Fits d.frames d.depth → Keeps d.depth (next d h))
    → Keeps (opened t c.depth) (closed c.frames c t next)
shut c t next fits e none each = closes c c.frames t next fits e none (λ g others is h k. each (popped c g others) g.hole h k)

number_ends : (c : Core) (p : Plain) → Fits c.frames c.depth
    → Keeps (opened (token.mark mark.CloseRound) c.depth) (number_closed c (token.mark mark.CloseRound) p)
number_ends c p fits =
    shut c (token.mark mark.CloseRound) (number_hole (token.mark mark.CloseRound) p) fits (λ d. refl) (λ d spot e. tt)
    (number_keeps (token.mark mark.CloseRound) p)

-- a comma in a list, and an operator after a `(`
next_keeps : (c : Core) (t : Tok) (e : Expr) (frames : List Frame) → Fits frames c.depth → Keeps c.depth (closed frames c t (next_hole t c.depth e))
next_keeps c t e [] fits = tt
next_keeps c t e (f ∷ frames) fits = by_hole f.hole fits.0 fits.1
  where
    by_hole : (hole : Hole) → c.depth ≡ inside hole f.depth → HoleFits hole f.level frames → Keeps c.depth (next_hole t c.depth e (popped c f frames) hole)
    by_hole (list shape es) same h =
        (record { frames = (same, h, fits.2); stage = (record { inner = tt; alone = refl }, tt) }, refl)
    by_hole hole same h = tt

section_keeps : (c : Core) (t : Tok) (operator : Operator) (frames : List Frame) → Fits frames c.depth → IsTrue (has_funs frames)
    → Keeps c.depth (closed frames c t (section_hole t c.depth operator))
section_keeps c t operator [] fits funs = tt
section_keeps c t operator (f ∷ frames) fits funs = by_hole f.hole fits.0 fits.1 funs
  where
    by_hole : (hole : Hole) → c.depth ≡ inside hole f.depth → HoleFits hole f.level frames → IsTrue (machine.hole_has_funs hole)
        → Keeps c.depth (section_hole t c.depth operator (popped c f frames) hole)
    by_hole (round r) same h funs =
        (record { frames = (same, (h.0, h.1, funs), fits.2); stage = (record { inner = tt; alone = refl }, refl) }, refl)
    by_hole hole same h funs = tt

weighed_keeps : (c : Core) (t : Tok) (n : Number) (frames : List Frame) → Fits frames c.depth → Top IsUnweighed frames
    → Keeps c.depth (closed frames c t (weighed_hole c.depth n))
weighed_keeps c t n [] fits top = tt
weighed_keeps c t n (f ∷ frames) fits top = by_hole f.hole fits.0 fits.1 top
  where
    by_hole : (hole : Hole) → c.depth ≡ inside hole f.depth → HoleFits hole f.level frames → IsUnweighed hole
        → Keeps c.depth (weighed_hole c.depth n (popped c f frames) hole)
    by_hole unweighed same h top =
        (record { frames = (same, h, fits.2); stage = (record { inner = tt; alone = refl }, tt) }, refl)
    by_hole hole same h top = absurd top

-- where a number alone may stand
numbers_top : (frames : List Frame) → IsTrue (has_numbers frames) → Top TakesNumber frames
numbers_top [] h = cc
numbers_top (f ∷ frames) h = by_hole f.hole h
  where
    by_hole : (hole : Hole) → IsTrue (machine.hole_has_numbers hole) → TakesNumber hole
    by_hole (round r) h = h
    by_hole (measure spot call) h = tt
    by_hole (bound from) h = tt
    by_hole hole h = cc

-- ---- something begins
round_fits : (c : Core) (spot : Spot) → SpotFits spot c.frames → RoundFits (round_at c spot) c.frames
round_fits c first h = chosen (has_exprs c.frames) refl
  where
    chosen : (b : Bool) → has_exprs c.frames ≡ b → RoundFits (if b then anything else fun_or_number) c.frames
    chosen true e = rw e refl
    chosen false e = tt
round_fits c at_operand h = h
round_fits c (after_dot g) h = tt

begins : (c : Core) (t : Tok) (spot : Spot) (p : Stage) → Fits c.frames c.depth → (IsTrue (has_exprs c.frames) → StageFits p c.frames c.level)
    → Keeps c.depth (if may_begin_operand c spot then going c p else refused c t)
begins c t spot p fits h =
    either_way c.depth (may_begin_operand c spot) (going c p) (refused c t) (λ b. stays c p fits (h (second (may_begin_ratio spot) (has_exprs c.frames) b))) tt

name_keeps : (c : Core) (t : Tok) (spot : Spot) (n : Name) → Fits c.frames c.depth → Open c.frames c.level → SpotFits spot c.frames
    → Keeps c.depth (taken_name c t spot n)
name_keeps c t spot name.Silence fits open_ h =
    either_way c.depth (may_begin_operand c spot) (operand c tree.silence) (refused c t)
    (λ b. operand_keeps c tree.silence fits open_ (second (may_begin_ratio spot) (has_exprs c.frames) b)) tt
name_keeps c t spot (name.Key key) fits open_ h = begins c t spot (machine.keyed key) fits (λ e. (open_, e))
name_keeps c t spot (name.List shape) fits open_ h = begins c t spot (machine.listing shape) fits (λ e. (open_, e))
name_keeps c t spot name.Timecat fits open_ h = begins c t spot machine.timing fits (λ e. (open_, e))
name_keeps c t spot (name.Bare f) fits open_ h = made_keeps c spot (tree.bare f) fits open_ h
name_keeps c t spot (name.OfRatio f) fits open_ h = stays c (machine.asking_ratio spot (ratio_call.Of f)) fits (open_, h)
name_keeps c t spot name.Off fits open_ h = stays c (machine.asking_ratio spot ratio_call.Off) fits (open_, h)
name_keeps c t spot (name.OfCount f) fits open_ h = stays c (machine.asking_count spot (machine.count_of f)) fits (open_, h)
name_keeps c t spot name.Every fits open_ h = stays c (machine.asking_count spot machine.every_in) fits (open_, h)
name_keeps c t spot (name.Cycle g) fits open_ h = stays c (machine.asking_count spot (machine.cycles_of g)) fits (open_, h)
name_keeps c t spot name.Euclid fits open_ h = stays c (machine.asking_count spot machine.hits_of) fits (open_, h)
name_keeps c t spot name.EuclidOff fits open_ h = stays c (machine.asking_count spot machine.off_hits) fits (open_, h)
name_keeps c t spot (name.OfBools f) fits open_ h = stays c (machine.asking_bools spot f) fits (open_, h)
name_keeps c t spot (name.Layer g) fits open_ h = stays c (machine.asking_fun spot (machine.layer_of g)) fits (open_, h)
name_keeps c t spot name.Within fits open_ h = stays c (machine.asking_bounds spot) fits (open_, h)
name_keeps c t spot name.Const fits open_ h =
    (record { frames = (refl, (open_, h), fits); stage = (record { inner = tt; alone = refl }, refl) }, refl)
name_keeps c t spot n fits open_ h = tt

wanted_mark_keeps : (c : Core) (spot : Spot) (m : Mark) → Fits c.frames c.depth → Open c.frames c.level → SpotFits spot c.frames
    → Keeps (opened (token.mark m) c.depth) (machine.wanted_mark false c (token.mark m) spot m)
wanted_mark_keeps c spot mark.OpenRound fits open_ h =
    opens c (round (round_at c spot)) machine.opening fits tt (open_, round_fits c spot h) (record { inner = tt; alone = refl })
wanted_mark_keeps c spot m fits open_ h = tt

wanted_keeps : (c : Core) (t : Tok) (spot : Spot) → Fits c.frames c.depth → Open c.frames c.level → SpotFits spot c.frames
    → Keeps (opened t c.depth) (wanted false c t spot)
wanted_keeps c (number n) spot fits open_ h =
    either_way c.depth (may_begin_ratio spot) (going c (machine.measured (tree.plain (Bare n)))) (refused c (number n))
    (λ b. stays c (machine.measured (tree.plain (Bare n))) fits open_) tt
wanted_keeps c (token.name n) spot fits open_ h = name_keeps c (token.name n) spot n fits open_ h
wanted_keeps c (quoted readings) spot fits open_ h =
    either_way c.depth (may_begin_ratio spot) (reading false c (readings Ratios) (going c (machine.measured (tree.measured (readings Ratios)))))
    (refused c (quoted readings))
    (λ b. read_keeps c (readings Ratios) (going c (machine.measured (tree.measured (readings Ratios)))) c.depth
    (stays c (machine.measured (tree.measured (readings Ratios))) fits open_)) tt
wanted_keeps c (token.mark m) spot fits open_ h = wanted_mark_keeps c spot m fits open_ h
wanted_keeps c end spot fits open_ h = tt

opening_mark_keeps : (c : Core) (m : Mark) → Fits c.frames c.depth → Open c.frames c.level
    → Keeps (opened (token.mark m) c.depth) (opening_mark false c (token.mark m) m)
opening_mark_keeps c mark.Minus fits open_ =
    either_way c.depth (has_numbers c.frames) (going c machine.minus) (refused c (token.mark mark.Minus))
    (λ b. stays c machine.minus fits (numbers_top c.frames b)) tt
opening_mark_keeps c (mark.Operator operator) fits open_ =
    either_way c.depth (has_funs c.frames) (closed c.frames c (token.mark (mark.Operator operator))
    (section_hole (token.mark (mark.Operator operator)) c.depth operator))
    (refused c (token.mark (mark.Operator operator))) (λ b. section_keeps c (token.mark (mark.Operator operator)) operator c.frames fits b) tt
opening_mark_keeps c m fits open_ = wanted_keeps c (token.mark m) first fits open_ tt

opening_keeps : (c : Core) (t : Tok) → Fits c.frames c.depth → Open c.frames c.level → Keeps (opened t c.depth) (at_opening false c t)
opening_keeps c (number n) fits open_ = stays c (machine.opened n c.read) fits open_
opening_keeps c (token.name n) fits open_ = wanted_keeps c (token.name n) first fits open_ tt
opening_keeps c (quoted readings) fits open_ = wanted_keeps c (quoted readings) first fits open_ tt
opening_keeps c (token.mark m) fits open_ = opening_mark_keeps c m fits open_
opening_keeps c end fits open_ = wanted_keeps c end first fits open_ tt

pending_keeps : (c : Core) (t : Tok) (p : Pending) → Fits c.frames c.depth → Open c.frames c.level → Keeps (opened t c.depth) (pending_before false c t p)
pending_keeps c t p fits open_ =
    either_way (opened t c.depth) (has_exprs c.frames) (wanted false (with_level c (p ∷ c.level)) t at_operand) (refused c t)
    (λ b. wanted_keeps (with_level c (p ∷ c.level)) t at_operand fits (open_exprs c.frames (p ∷ c.level) open_.inner b) b) tt

-- ---- numbers in round brackets
above_keeps : (c : Core) (negative : Bool) (n : Number) (at : ℕ) (m : Mark) → Fits c.frames c.depth → Top TakesNumber c.frames
    → Keeps (opened (token.mark m) c.depth) (above_mark false c (token.mark m) negative n at m)
above_keeps c negative n at mark.CloseRound fits top = number_ends c (Signed negative n) fits
above_keeps c negative n at mark.Slash fits top = stays c (machine.slash negative n) fits top
above_keeps c negative n at m fits top = tt

opened_keeps : (c : Core) (n : Number) (at : ℕ) (m : Mark) → Fits c.frames c.depth → Open c.frames c.level
    → Keeps (opened (token.mark m) c.depth) (opened_mark false c (token.mark m) n at m)
opened_keeps c n at (mark.Shift way) fits open_ = stays c (machine.shifted (tree.plain (Bare n)) way) fits open_
opened_keeps c n at m fits open_ =
    either_way (opened (token.mark m) c.depth) (has_numbers c.frames) (above_mark false c (token.mark m) false n at m) (refused c (token.mark m))
    (λ b. above_keeps c false n at m fits (numbers_top c.frames b)) tt

fraction_keeps : (c : Core) (t : Tok) → Fits c.frames c.depth → Top TakesNumber c.frames → Keeps (opened t c.depth) (at_fraction false c t)
fraction_keeps c (number n) fits top = stays c (machine.above false n c.read) fits top
fraction_keeps c (token.mark m) fits top = by_mark m
  where
    by_mark : (m : Mark) → Keeps (opened (token.mark m) c.depth) (fraction_mark c (token.mark m) m)
    by_mark mark.Minus = stays c machine.minus fits top
    by_mark m = tt
fraction_keeps c t fits top = tt

minus_keeps : (c : Core) (t : Tok) → Fits c.frames c.depth → Top TakesNumber c.frames → Keeps (opened t c.depth) (at_minus false c t)
minus_keeps c (number n) fits top = stays c (machine.above true n c.read) fits top
minus_keeps c t fits top = tt

slash_keeps : (c : Core) (t : Tok) (negative : Bool) (a : Number) → Fits c.frames c.depth → Top TakesNumber c.frames
    → Keeps (opened t c.depth) (at_slash false c t negative a)
slash_keeps c (number b) negative a fits top = stays c (machine.closing (Quotient negative a b)) fits top
slash_keeps c t negative a fits top = tt

closing_keeps : (c : Core) (p : Plain) (m : Mark) → Fits c.frames c.depth → Keeps (opened (token.mark m) c.depth) (closing_mark c (token.mark m) p m)
closing_keeps c p mark.CloseRound fits = number_ends c p fits
closing_keeps c p m fits = tt

-- ---- after expressions and functions
expressed_keeps : (c : Core) (e : Expr) (m : Mark) → Fits c.frames c.depth → Open c.frames c.level → IsTrue (has_exprs c.frames)
    → Keeps (opened (token.mark m) c.depth) (expressed_mark c (token.mark m) e m)
expressed_keeps c e (mark.Operator operator) fits open_ h =
    stays (with_level c (joins e operator ∷ c.level)) (machine.wanting at_operand) fits (open_exprs c.frames (joins e operator ∷ c.level) open_.inner h, h)
expressed_keeps c e mark.CloseRound fits open_ h =
    shut c (token.mark mark.CloseRound) (expr_hole (token.mark mark.CloseRound) (applied c.level e)) fits (λ d. refl) (λ d spot x. tt)
    (expr_keeps (token.mark mark.CloseRound) (applied c.level e))
expressed_keeps c e mark.CloseSquare fits open_ h =
    shut c (token.mark mark.CloseSquare) (list_hole (token.mark mark.CloseSquare) (applied c.level e)) fits (λ d. refl) (λ d spot x. tt)
    (list_keeps (token.mark mark.CloseSquare) (applied c.level e))
expressed_keeps c e mark.Comma fits open_ h = next_keeps c (token.mark mark.Comma) (applied c.level e) c.frames fits
expressed_keeps c e m fits open_ h = tt

end_keeps : (c : Core) (frames : List Frame) (e : Expr) → Fits c.frames c.depth → Keeps c.depth (at_end c end frames e)
end_keeps c [] e fits = stays (with_level c []) (machine.ended (whole_of c.front e)) fits tt
end_keeps c (f ∷ frames) e fits = tt

after_expr_keeps : (c : Core) (t : Tok) (e : Expr) → Fits c.frames c.depth → Open c.frames c.level → IsTrue (has_exprs c.frames)
    → Keeps (opened t c.depth) (after_expr c t e)
after_expr_keeps c (number n) e fits open_ h = tt
after_expr_keeps c (token.name n) e fits open_ h = tt
after_expr_keeps c (quoted readings) e fits open_ h = tt
after_expr_keeps c (token.mark m) e fits open_ h = expressed_keeps c e m fits open_ h
after_expr_keeps c end e fits open_ h = end_keeps c c.frames (applied c.level e) fits

fun_ends : (c : Core) (f : Fun) → Fits c.frames c.depth
    → Keeps (opened (token.mark mark.CloseRound) c.depth) (fun_closed c (token.mark mark.CloseRound) f)
fun_ends c f fits =
    either_way (opened (token.mark mark.CloseRound) c.depth) (may_close_fun c)
    (closed c.frames c (token.mark mark.CloseRound) (in_hole (token.mark mark.CloseRound) f)) (refused c (token.mark mark.CloseRound))
    (λ b. fun_keeps c f fits) tt

chained_keeps : (c : Core) (f : Fun) (m : Mark) → Fits c.frames c.depth → Open c.frames c.level
    → Keeps (opened (token.mark m) c.depth) (chained_mark c (token.mark m) f m)
chained_keeps c f mark.Dot fits open_ = stays c (machine.wanting (after_dot f)) fits (open_, tt)
chained_keeps c f mark.Dollar fits open_ =
    either_way c.depth (has_exprs c.frames) (going (with_level c (applies f ∷ c.level)) (machine.wanting first)) (refused c (token.mark mark.Dollar))
    (λ b. stays (with_level c (applies f ∷ c.level)) (machine.wanting first) fits (open_exprs c.frames (applies f ∷ c.level) open_.inner b, tt)) tt
chained_keeps c f mark.CloseRound fits open_ = fun_ends c (tree.paren f) fits
chained_keeps c f m fits open_ = tt

after_fun_keeps : (c : Core) (t : Tok) (f : Fun) → Fits c.frames c.depth → Open c.frames c.level → Keeps (opened t c.depth) (after_fun c t f)
after_fun_keeps c (token.mark m) f fits open_ = chained_keeps c f m fits open_
after_fun_keeps c t f fits open_ = tt

named_keeps : (c : Core) (t : Tok) (f : Fun) → Fits c.frames c.depth → Open c.frames c.level → Keeps (opened t c.depth) (after_named false c t f)
named_keeps c (token.mark m) f fits open_ = by_mark m
  where
    by_mark : (m : Mark) → Keeps (opened (token.mark m) c.depth) (named_mark false c (token.mark m) f m)
    by_mark mark.Dot = chained_keeps c f mark.Dot fits open_
    by_mark mark.Dollar = chained_keeps c f mark.Dollar fits open_
    by_mark mark.CloseRound = chained_keeps c f mark.CloseRound fits open_
    by_mark m = pending_keeps c (token.mark m) (calls f) fits open_
named_keeps c t f fits open_ = pending_keeps c t (calls f) fits open_

shifted_keeps : (c : Core) (t : Tok) (r : Ratio) (way : Way) → Fits c.frames c.depth → Open c.frames c.level
    → Keeps (opened t c.depth) (after_shift false c t r way)
shifted_keeps c (token.mark m) r way fits open_ = by_mark m
  where
    by_mark : (m : Mark) → Keeps (opened (token.mark m) c.depth) (shifted_mark false c (token.mark m) r way m)
    by_mark mark.CloseRound =
        either_way (opened (token.mark mark.CloseRound) c.depth) (may_close_fun c)
        (closed c.frames c (token.mark mark.CloseRound) (in_hole (token.mark mark.CloseRound) (tree.shift r way)))
        (pending_before false c (token.mark mark.CloseRound) (shifts r way))
        (λ b. fun_keeps c (tree.shift r way) fits) (pending_keeps c (token.mark mark.CloseRound) (shifts r way) fits open_)
    by_mark m = pending_keeps c (token.mark m) (shifts r way) fits open_
shifted_keeps c t r way fits open_ = pending_keeps c t (shifts r way) fits open_

measured_keeps : (c : Core) (r : Ratio) (m : Mark) → Fits c.frames c.depth → Open c.frames c.level
    → Keeps (opened (token.mark m) c.depth) (measured_mark c (token.mark m) r m)
measured_keeps c r (mark.Shift way) fits open_ = stays c (machine.shifted r way) fits open_
measured_keeps c r m fits open_ = tt

-- ---- arguments
ratio_keeps : (c : Core) (t : Tok) (spot : Spot) (call : RatioCall) → Fits c.frames c.depth → Open c.frames c.level → SpotFits spot c.frames
    → Keeps (opened t c.depth) (at_ratio false c t spot call)
ratio_keeps c (number n) spot call fits open_ h = called_keeps c spot (with_ratio call (tree.plain (Bare n))) fits open_ h
ratio_keeps c (token.name n) spot call fits open_ h = tt
ratio_keeps c (quoted readings) spot call fits open_ h =
    read_keeps c (readings Ratios) (called c spot (with_ratio call (tree.measured (readings Ratios)))) c.depth
    (called_keeps c spot (with_ratio call (tree.measured (readings Ratios))) fits open_ h)
ratio_keeps c (token.mark m) spot call fits open_ h = by_mark m
  where
    by_mark : (m : Mark) → Keeps (opened (token.mark m) c.depth) (ratio_mark false c (token.mark m) spot call m)
    by_mark mark.OpenRound = opens c (measure spot call) machine.fraction fits tt (open_, h) tt
    by_mark m = tt
ratio_keeps c end spot call fits open_ h = tt

count_keeps : (c : Core) (t : Tok) (spot : Spot) (call : CountCall) → Fits c.frames c.depth → Open c.frames c.level → SpotFits spot c.frames
    → Keeps (opened t c.depth) (at_count false c t spot call)
count_keeps c (number n) spot call fits open_ h =
    either_way c.depth (is_unsigned n) (called c spot (with_count call (tree.whole n.whole))) (refused c (number n))
    (λ b. called_keeps c spot (with_count call (tree.whole n.whole)) fits open_ h) tt
count_keeps c (quoted readings) spot call fits open_ h =
    read_keeps c (readings Counts) (called c spot (with_count call (tree.counted (readings Counts)))) c.depth
    (called_keeps c spot (with_count call (tree.counted (readings Counts))) fits open_ h)
count_keeps c t spot call fits open_ h = tt

bools_keeps : (c : Core) (t : Tok) (spot : Spot) (f : BoolsFun) → Fits c.frames c.depth → Open c.frames c.level → SpotFits spot c.frames
    → Keeps (opened t c.depth) (at_bools false c t spot f)
bools_keeps c (quoted readings) spot f fits open_ h =
    read_keeps c (readings Truths) (made c spot (tree.of_bools f (readings Truths))) c.depth
    (made_keeps c spot (tree.of_bools f (readings Truths)) fits open_ h)
bools_keeps c t spot f fits open_ h = tt

argument_keeps : (c : Core) (t : Tok) (spot : Spot) (call : FunCall) → Fits c.frames c.depth → Open c.frames c.level → SpotFits spot c.frames
    → Keeps (opened t c.depth) (at_argument false c t spot call)
argument_keeps c (token.name n) spot call fits open_ h = by_name n
  where
    by_name : (n : Name) → Keeps c.depth (argument_name c (token.name n) spot call n)
    by_name (name.Bare f) = made_keeps c spot (with_fun call (tree.bare f)) fits open_ h
    by_name n = tt
argument_keeps c (token.mark m) spot call fits open_ h = by_mark m
  where
    by_mark : (m : Mark) → Keeps (opened (token.mark m) c.depth) (argument_mark false c (token.mark m) spot call m)
    by_mark mark.OpenRound = opens c (round (argument spot call)) machine.opening fits tt (open_, h) (record { inner = tt; alone = refl })
    by_mark m = tt
argument_keeps c t spot call fits open_ h = tt

bounds_mark_keeps : (c : Core) (spot : Spot) (m : Mark) → Fits c.frames c.depth → Open c.frames c.level → SpotFits spot c.frames
    → Keeps (opened (token.mark m) c.depth) (bounds_mark false c (token.mark m) spot m)
bounds_mark_keeps c spot mark.OpenRound fits open_ h = opens c (bounds spot) (machine.bounding None) fits tt (open_, h) tt
bounds_mark_keeps c spot m fits open_ h = tt

bound_keeps : (c : Core) (t : Tok) (from : Option Plain) → Fits c.frames c.depth → Top IsBounds c.frames → Keeps (opened t c.depth) (at_bound false c t from)
bound_keeps c (number n) from fits top = stays c (machine.bounded from (Bare n)) fits top
bound_keeps c (token.mark m) from fits top = by_mark m
  where
    by_mark : (m : Mark) → Keeps (opened (token.mark m) c.depth) (bounding_mark false c (token.mark m) from m)
    by_mark mark.OpenRound = opens c (bound from) machine.fraction fits tt top tt
    by_mark m = tt
bound_keeps c t from fits top = tt

bounded_keeps : (c : Core) (from : Option Plain) (p : Plain) (m : Mark) → Fits c.frames c.depth → Top IsBounds c.frames
    → Keeps (opened (token.mark m) c.depth) (bounded_mark c (token.mark m) from p m)
bounded_keeps c None a mark.Comma fits top = stays c (machine.bounding (Some a)) fits top
bounded_keeps c (Some a) b mark.CloseRound fits top =
    shut c (token.mark mark.CloseRound) (bounds_hole (token.mark mark.CloseRound) a b) fits (λ d. refl) (λ d spot x. tt)
    (bounds_keeps (token.mark mark.CloseRound) a b)
bounded_keeps c from p m fits top = tt

-- ---- keys and lists
key_keeps : (c : Core) (t : Tok) (key : Key) → Fits c.frames c.depth → Open c.frames c.level → IsTrue (has_exprs c.frames)
    → Keeps (opened t c.depth) (at_key false c t key)
key_keeps c (number n) key fits open_ h =
    either_way c.depth (takes_word key && is_whole n) (refused c (number n)) (operand c (tree.control key (tree.numeral n))) (λ b. tt)
    (operand_keeps c (tree.control key (tree.numeral n)) fits open_ h)
key_keeps c (token.name n) key fits open_ h = tt
key_keeps c (quoted readings) key fits open_ h =
    read_keeps c (readings (kind_of key)) (operand c (tree.control key (tree.quoted (readings (kind_of key))))) c.depth
    (operand_keeps c (tree.control key (tree.quoted (readings (kind_of key)))) fits open_ h)
key_keeps c (token.mark m) key fits open_ h = by_mark m
  where
    by_mark : (m : Mark) → Keeps (opened (token.mark m) c.depth) (setting_mark false c (token.mark m) key m)
    by_mark mark.OpenRound =
        either_way (suc c.depth) (takes_word key) (refused c (token.mark mark.OpenRound)) (going (pushed c (setting key) (suc c.depth)) machine.set) (λ b. tt)
        (opens c (setting key) machine.set fits tt (open_, h) tt)
    by_mark m = tt
key_keeps c end key fits open_ h = tt

set_keeps : (c : Core) (m : Mark) → Fits c.frames c.depth → Top IsSetting c.frames → Keeps (opened (token.mark m) c.depth) (minus_mark c (token.mark m) m)
set_keeps c mark.Minus fits top = stays c machine.negating fits top
set_keeps c m fits top = tt

negating_keeps : (c : Core) (t : Tok) → Fits c.frames c.depth → Top IsSetting c.frames → Keeps (opened t c.depth) (at_negating false c t)
negating_keeps c (number n) fits top = stays c (machine.negated n) fits top
negating_keeps c t fits top = tt

negated_keeps : (c : Core) (n : Number) (m : Mark) → Fits c.frames c.depth → Keeps (opened (token.mark m) c.depth) (negated_mark c (token.mark m) n m)
negated_keeps c n mark.CloseRound fits =
    shut c (token.mark mark.CloseRound) (setting_hole (token.mark mark.CloseRound) n) fits (λ d. refl) (λ d spot x. tt)
    (setting_keeps (token.mark mark.CloseRound) n)
negated_keeps c n m fits = tt

square_keeps : (c : Core) (hole : Hole) (p : Stage) (m : Mark) → Fits c.frames c.depth → IsBracket hole → HoleFits hole c.level c.frames
    → StageFits p (record { level = c.level; depth = c.depth; hole = hole } ∷ c.frames) []
    → Keeps (opened (token.mark m) c.depth) (square_mark false c (token.mark m) hole p m)
square_keeps c hole p mark.OpenSquare fits bracket h k = opens c hole p fits bracket h k
square_keeps c hole p m fits bracket h k = tt

-- an expression begins in a list
list_level : (frames : List Frame) (level : List Pending) → Top IsList frames → Open frames level
list_level [] level top = absurd top
list_level (f ∷ frames) level top = open_exprs (f ∷ frames) level (by_hole f.hole top) (exprs f.hole top)
  where
    by_hole : (hole : Hole) → IsList hole → IsInner hole
    by_hole (list shape es) h = tt
    by_hole hole h = absurd h

    exprs : (hole : Hole) → IsList hole → IsTrue (machine.hole_has_exprs hole)
    exprs (list shape es) h = refl
    exprs hole h = absurd h

list_end : (c : Core) → Fits c.frames c.depth → Keeps (opened (token.mark mark.CloseSquare) c.depth)
    (closed c.frames c (token.mark mark.CloseSquare) (empty_hole (token.mark mark.CloseSquare)))
list_end c fits =
    shut c (token.mark mark.CloseSquare) (empty_hole (token.mark mark.CloseSquare)) fits (λ d. refl) (λ d spot x. tt)
    (empty_keeps (token.mark mark.CloseSquare))

list_open_keeps : (c : Core) (t : Tok) → Fits c.frames c.depth → Open c.frames c.level → Keeps (opened t c.depth) (at_list false c t)
list_open_keeps c (token.mark m) fits open_ = by_mark m
  where
    by_mark : (m : Mark) → Keeps (opened (token.mark m) c.depth) (list_mark false c (token.mark m) m)
    by_mark mark.CloseSquare = list_end c fits
    by_mark m = wanted_keeps c (token.mark m) first fits open_ tt
list_open_keeps c t fits open_ = wanted_keeps c t first fits open_ tt

part_keeps : (c : Core) (m : Mark) → Fits c.frames c.depth → Top IsTimecat c.frames
    → Keeps (opened (token.mark m) c.depth) (part_mark false c (token.mark m) m)
part_keeps c mark.OpenRound fits top = opens c unweighed machine.weighing fits tt top tt
part_keeps c m fits top = tt

parts_end : (c : Core) → Fits c.frames c.depth → Keeps (opened (token.mark mark.CloseSquare) c.depth)
    (closed c.frames c (token.mark mark.CloseSquare) (parts_hole (token.mark mark.CloseSquare)))
parts_end c fits =
    shut c (token.mark mark.CloseSquare) (parts_hole (token.mark mark.CloseSquare)) fits (λ d. refl) (λ d spot x. tt)
    (parts_keeps (token.mark mark.CloseSquare))

parts_open_keeps : (c : Core) (m : Mark) → Fits c.frames c.depth → Top IsTimecat c.frames
    → Keeps (opened (token.mark m) c.depth) (parts_mark false c (token.mark m) m)
parts_open_keeps c mark.CloseSquare fits top = parts_end c fits
parts_open_keeps c m fits top = part_keeps c m fits top

part_read_keeps : (c : Core) (m : Mark) → Fits c.frames c.depth → Top IsTimecat c.frames
    → Keeps (opened (token.mark m) c.depth) (part_read_mark c (token.mark m) m)
part_read_keeps c mark.Comma fits top = stays c machine.part_wanted fits top
part_read_keeps c mark.CloseSquare fits top = parts_end c fits
part_read_keeps c m fits top = tt

weight_keeps : (c : Core) (t : Tok) → Fits c.frames c.depth → Top IsUnweighed c.frames → Keeps (opened t c.depth) (at_weight false c t)
weight_keeps c (number n) fits top = stays c (machine.weighted n) fits top
weight_keeps c t fits top = tt

weighted_keeps : (c : Core) (n : Number) (m : Mark) → Fits c.frames c.depth → Top IsUnweighed c.frames
    → Keeps (opened (token.mark m) c.depth) (weighed_mark c (token.mark m) n m)
weighted_keeps c n mark.Comma fits top = weighed_keeps c (token.mark mark.Comma) n c.frames fits top
weighted_keeps c n m fits top = tt

-- ---- lines
beginning_keeps : (c : Core) (t : Tok) → Fits c.frames c.depth → Open c.frames c.level → Keeps (opened t c.depth) (at_beginning false c t)
beginning_keeps c (token.name n) fits open_ = by_name n
  where
    by_name : (n : Name) → Keeps c.depth (beginning_name false c (token.name n) n)
    by_name (name.Order o) = stays c (machine.done (tree.order o)) fits tt
    by_name (name.Flag f) = stays c (machine.flagging f) fits tt
    by_name name.JumpMod = stays c machine.jumping fits open_
    by_name (name.Orbit o) = stays c (machine.addressed o) fits open_
    by_name n = tt
beginning_keeps c end fits open_ = stays c (machine.ended (tree.line tree.nothing)) fits tt
beginning_keeps c t fits open_ = tt

whole_keeps : (c : Core) (t : Tok) (kind : LineKind) (holds : ℕ → Bool) (next : ℕ → Stage) → Fits c.frames c.depth
    → ((n : ℕ) → StageFits (next n) c.frames c.level) → Keeps (opened t c.depth) (at_whole false c t kind holds next)
whole_keeps c (number n) kind holds next fits h =
    either_way c.depth (is_unsigned n) (going c (next n.whole)) (refused c (number n)) (λ b. stays c (next n.whole) fits (h n.whole)) tt
whole_keeps c t kind holds next fits h = tt

dollar_keeps : (c : Core) (front : Front) (m : Mark) → Fits c.frames c.depth → Open c.frames c.level
    → Keeps (opened (token.mark m) c.depth) (dollar_mark c (token.mark m) front m)
dollar_keeps c front mark.Dollar fits open_ = stays (with_front c front) (machine.wanting first) fits (open_, tt)
dollar_keeps c front m fits open_ = tt

addressed_keeps : (c : Core) (t : Tok) (o : Option ℕ) → Fits c.frames c.depth → Open c.frames c.level → Keeps (opened t c.depth) (at_addressed c t o)
addressed_keeps c (token.name n) o fits open_ = by_name n
  where
    by_name : (n : Name) → Keeps c.depth (addressed_name c (token.name n) o n)
    by_name name.Silence = stays c (machine.done (tree.still o)) fits tt
    by_name n = tt
addressed_keeps c (token.mark m) o fits open_ = dollar_keeps c (machine.plays o) m fits open_
addressed_keeps c t o fits open_ = tt

done_keeps : (c : Core) (t : Tok) (l : Line) → Fits c.frames c.depth → Keeps (opened t c.depth) (at_done c t l)
done_keeps c end l fits = stays c (machine.ended (tree.line l)) fits tt
done_keeps c t l fits = tt

-- a stage where nothing but a mark goes on
at_marks : (c : Core) (t : Tok) (next : Tok → Mark → Step) → ((m : Mark) → Keeps (opened (token.mark m) c.depth) (next (token.mark m) m))
    → Keeps (opened t c.depth) (at_mark c t (next t))
at_marks c (token.mark m) next each = each m
at_marks c (number n) next each = tt
at_marks c (token.name n) next each = tt
at_marks c (quoted readings) next each = tt
at_marks c end next each = tt

keeps_at : (c : Core) (t : Tok) (p : Stage) → Fits c.frames c.depth → StageFits p c.frames c.level → Keeps (opened t c.depth) (taken_at false c t p)
keeps_at c t machine.beginning fits h = beginning_keeps c t fits h
keeps_at c t (machine.flagging f) fits h = whole_keeps c t BadOrbit is_orbit (λ n. machine.done (tree.flag f n)) fits (λ n. tt)
keeps_at c t (machine.addressed o) fits h = addressed_keeps c t o fits h
keeps_at c t machine.jumping fits h = whole_keeps c t BadOrbit is_orbit machine.jumping_at fits (λ n. h)
keeps_at c t (machine.jumping_at n) fits h = whole_keeps c t BadEvery is_every (machine.jumped n) fits (λ m. h)
keeps_at c t (machine.jumped n every) fits h = at_marks c t (λ u. dollar_mark c u (machine.jumps n every))
    (λ m. dollar_keeps c (machine.jumps n every) m fits h)
keeps_at c t (machine.done l) fits h = done_keeps c t l fits
keeps_at c t (machine.ended w) fits h = tt
keeps_at c t (machine.wanting spot) fits h = wanted_keeps c t spot fits h.0 h.1
keeps_at c t machine.opening fits h = opening_keeps c t fits h
keeps_at c t (machine.opened n at) fits h = at_marks c t (λ u. opened_mark false c u n at) (λ m. opened_keeps c n at m fits h)
keeps_at c t (machine.measured r) fits h = at_marks c t (λ u. measured_mark c u r) (λ m. measured_keeps c r m fits h)
keeps_at c t (machine.shifted r way) fits h = shifted_keeps c t r way fits h
keeps_at c t (machine.expressed e) fits h = after_expr_keeps c t e fits h.0 h.1
keeps_at c t (machine.named f) fits h = named_keeps c t f fits h
keeps_at c t (machine.chained f) fits h = after_fun_keeps c t f fits h
keeps_at c t (machine.keyed key) fits h = key_keeps c t key fits h.0 h.1
keeps_at c t machine.set fits h = at_marks c t (λ u. minus_mark c u) (λ m. set_keeps c m fits h)
keeps_at c t machine.negating fits h = negating_keeps c t fits h
keeps_at c t (machine.negated n) fits h = at_marks c t (λ u. negated_mark c u n) (λ m. negated_keeps c n m fits)
keeps_at c t (machine.listing shape) fits h =
    at_marks c t (λ u. square_mark false c u (list shape tree.no_expr) machine.list_open)
    (λ m. square_keeps c (list shape tree.no_expr) machine.list_open m fits tt h tt)
keeps_at c t machine.list_open fits h = list_open_keeps c t fits (list_level c.frames c.level h)
keeps_at c t machine.timing fits h =
    at_marks c t (λ u. square_mark false c u (timecat tree.no_part) machine.parts_open)
    (λ m. square_keeps c (timecat tree.no_part) machine.parts_open m fits tt h tt)
keeps_at c t machine.parts_open fits h = at_marks c t (λ u. parts_mark false c u) (λ m. parts_open_keeps c m fits h)
keeps_at c t machine.part_wanted fits h = at_marks c t (λ u. part_mark false c u) (λ m. part_keeps c m fits h)
keeps_at c t machine.part_read fits h = at_marks c t (λ u. part_read_mark c u) (λ m. part_read_keeps c m fits h)
keeps_at c t machine.weighing fits h = weight_keeps c t fits h
keeps_at c t (machine.weighted n) fits h = at_marks c t (λ u. weighed_mark c u n) (λ m. weighted_keeps c n m fits h)
keeps_at c t (machine.asking_ratio spot call) fits h = ratio_keeps c t spot call fits h.0 h.1
keeps_at c t (machine.asking_count spot call) fits h = count_keeps c t spot call fits h.0 h.1
keeps_at c t (machine.asking_bools spot f) fits h = bools_keeps c t spot f fits h.0 h.1
keeps_at c t (machine.asking_fun spot call) fits h = argument_keeps c t spot call fits h.0 h.1
keeps_at c t (machine.asking_bounds spot) fits h = at_marks c t (λ u. bounds_mark false c u spot) (λ m. bounds_mark_keeps c spot m fits h.0 h.1)
keeps_at c t (machine.bounding from) fits h = bound_keeps c t from fits h
keeps_at c t (machine.bounded from p) fits h = at_marks c t (λ u. bounded_mark c u from p) (λ m. bounded_keeps c from p m fits h)
keeps_at c t machine.fraction fits h = fraction_keeps c t fits h
keeps_at c t machine.minus fits h = minus_keeps c t fits h
keeps_at c t (machine.above negative n at) fits h = at_marks c t (λ u. above_mark false c u negative n at) (λ m. above_keeps c negative n at m fits h)
keeps_at c t (machine.slash negative a) fits h = slash_keeps c t negative a fits h
keeps_at c t (machine.closing p) fits h = at_marks c t (λ u. closing_mark c u p) (λ m. closing_keeps c p m fits)

pub keeps : (s : State) (t : Tok) → Reached s → Keeps (opened t s.core.depth) (taken false s t)
keeps s t h = keeps_at s.core t s.stage h.frames h.stage

-- ---- several tokens
pub first_reached : (goal : Goal) → Reached (first_state goal)
first_reached a_line = record { frames = refl; stage = record { inner = tt; alone = refl } }
first_reached a_pattern = record { frames = refl; stage = (record { inner = tt; alone = refl }, tt) }

kept : (d : ℕ) (r : Step) (f : State) → Keeps d r → r ≡ Ok f → Reached f × (f.core.depth ≡ d)
kept d r f h e = subst (Keeps d) e h

pub run-reached : (tokens : List Tok) (s f : State) → Reached s → run (taken false) s tokens ≡ Ok f
    → Reached f × (f.core.depth ≡ depth_from s.core.depth tokens)
run-reached [] s f h e = subst (λ (x : State). Reached x × (x.core.depth ≡ s.core.depth)) (ok_is (Ok s) s f refl e) (h, refl)
run-reached (t ∷ others) s f h e =
    let b = runs.begins (taken false) s t others f e in
    let next = kept (opened t s.core.depth) (taken false s t) b.next (keeps s t h) b.taken in
    let more = run-reached others b.next f next.0 b.more in
    (more.0, more.1 ∙ ap (λ (n : ℕ). depth_from n others) next.1)
