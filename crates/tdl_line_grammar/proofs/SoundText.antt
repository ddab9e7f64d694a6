-- What a state of the machine has read, and what holds of it.
--     spelled          the terminals of a state: of what is open, outermost first, of what is pending, and of the stage
--     Fit              what is finished in a state is formed as the grammar wants it
--     Grows            terminals with one more, which stands at a token
--     Went             a state after a token
use Rattle.std.specs.Prelude.{not, IsTrue}
use Rattle.std.proofs.Common.{◌≡◌, true, false, Bool, Option, Some, None, List, [], ◌∷◌, ◌++◌, refl, ap, sym, ◌∙◌, subst, append_assoc}
use Rattle.tdl_control.specs.Key.{takes_word}
use Rattle.tdl_mini_tree.specs.declared.leaves.Kind.TheVariants.{Count as Counts}
use Rattle.tdl_mini_tree.specs.declared.leaves.Number.{Number}
use Rattle.tdl_line_machine.specs.declared.names.Name.{Name}
use Rattle.tdl_line_machine.specs.declared.names.Name.TheVariants as name
use Rattle.tdl_line_machine.specs.declared.marks.Mark.{Mark}
use Rattle.tdl_line_machine.specs.declared.marks.Mark.TheVariants as mark
use Rattle.tdl_command.specs.declared.tree.Plain.{Plain}
use Rattle.tdl_command.specs.declared.tree.Plain.TheVariants.{Bare, Signed, Quotient}
use Rattle.tdl_line_machine.specs.Tokens.{Tok, number}
use Rattle.tdl_command.specs.Rules.{whole_number}
use Rattle.tdl_line_machine.specs.Tokens as token
use Rattle.tdl_command.specs.Tree.{Count, whole, counted, no_expr, no_part, part}
use Rattle.tdl_line_machine.specs.Pieces.{Terminal, fixed, text}
use Rattle.tdl_line_grammar.specs.Spelling.{IsTokenOf, minus, plain_pieces, ratio_pieces, comma_after, comma_after_parts, expr_pieces}
use Rattle.tdl_line_grammar.specs.Spelling.{exprs_pieces, parts_pieces, fun_pieces, line_pieces, terminals, spell}
use Rattle.tdl_line_machine.specs.declared.goals.Goal.{Goal}
use Rattle.tdl_line_machine.specs.declared.goals.Goal.TheVariants.{Line as a_line, Pattern as a_pattern}
use Rattle.tdl_line_grammar.specs.Grammar.{is_joined, is_named, Formed, FormedExprs, FormedParts, FormedFun, FormedLine, FormedWhole}
use Rattle.tdl_line_machine.specs.Machine.States.{Spot, first, at_operand, after_dot, CountCall, count_of, every_in, cycles_of}
use Rattle.tdl_line_machine.specs.Machine.States.{cycles_from, hits_of, steps_of, off_hits, off_steps, off_from, FunCall, layer_of, every_of, cycle_of, off_of}
use Rattle.tdl_line_machine.specs.Machine.States.{within_of, Pending, applies, joins, calls, shifts, Bracketed, anything, expr_or_number, fun_or_number}
use Rattle.tdl_line_machine.specs.Machine.States.{fun_after}
use Rattle.tdl_line_machine.specs.Machine.States.{argument, Hole, round, section, measure, bounds, bound, setting, constant, list, timecat, unweighed, weighed}
use Rattle.tdl_line_machine.specs.Machine.States.{Frame, Front, alone, plays, jumps, Stage, beginning, flagging, addressed, jumping, jumping_at, jumped, done}
use Rattle.tdl_line_machine.specs.Machine.States.{ended, wanting, opening, opened, measured, shifted, expressed, named, chained, keyed, negating, negated}
use Rattle.tdl_line_machine.specs.Machine.States.{listing}
use Rattle.tdl_line_machine.specs.Machine.States.{list_open, timing, parts_open, part_read, weighing, weighted, asking_ratio, asking_count, asking_bools}
use Rattle.tdl_line_machine.specs.Machine.Lines.{at_mark}
use Rattle.tdl_line_machine.specs.Machine.States.{asking_fun, asking_bounds, bounding, bounded, above, slash, closing, Core, State, Step}
use Rattle.tdl_line_machine.specs.Machine.States.{minus as negation}
use Rattle.tdl_line_grammar.proofs.Kept.{Kept}
use Rattle.tdl_line_grammar.proofs.SoundKeeps.{Keeps}
use Rattle.tdl_line_machine.specs.declared.calls.RatioCall.{RatioCall}
use Rattle.tdl_line_machine.specs.declared.calls.RatioCall.TheVariants as ratio_call

-- ---- terminals
abbrev pub marked : Mark → Terminal
marked m = fixed (token.mark m)

abbrev pub worded : Name → Terminal
worded n = fixed (token.name n)

abbrev pub numbered : Number → Terminal
numbered n = fixed (number n)

abbrev pub count_terminal : Count → Terminal
count_terminal (whole n) = numbered (whole_number n)
count_terminal (counted reading) = text Counts reading

abbrev pub ratio_call_terminal : RatioCall → Terminal
ratio_call_terminal (ratio_call.Of f) = worded (name.OfRatio f)
ratio_call_terminal ratio_call.Off = worded name.Off

abbrev pub count_call_terminals : CountCall → List Terminal
count_call_terminals (count_of f) = worded (name.OfCount f) ∷ []
count_call_terminals every_in = worded name.Every ∷ []
count_call_terminals (cycles_of g) = worded (name.Cycle g) ∷ []
count_call_terminals (cycles_from g n) = worded (name.Cycle g) ∷ count_terminal n ∷ []
count_call_terminals hits_of = worded name.Euclid ∷ []
count_call_terminals (steps_of k) = worded name.Euclid ∷ count_terminal k ∷ []
count_call_terminals off_hits = worded name.EuclidOff ∷ []
count_call_terminals (off_steps k) = worded name.EuclidOff ∷ count_terminal k ∷ []
count_call_terminals (off_from k n) = worded name.EuclidOff ∷ count_terminal k ∷ count_terminal n ∷ []

abbrev pub fun_call_terminals : FunCall → List Terminal
fun_call_terminals (layer_of g) = worded (name.Layer g) ∷ []
fun_call_terminals (every_of n) = worded name.Every ∷ count_terminal n ∷ []
fun_call_terminals (cycle_of g n o) = worded (name.Cycle g) ∷ count_terminal n ∷ count_terminal o ∷ []
fun_call_terminals (off_of r) = worded name.Off ∷ terminals (ratio_pieces r)
fun_call_terminals (within_of a b) =
    worded name.Within ∷ marked mark.OpenRound
    ∷ (terminals (plain_pieces a) ++ marked mark.Comma ∷ (terminals (plain_pieces b) ++ marked mark.CloseRound ∷ []))

abbrev pub pending_terminals : Pending → List Terminal
pending_terminals (applies f) = terminals (fun_pieces f) ++ marked mark.Dollar ∷ []
pending_terminals (joins e operator) = terminals (expr_pieces e) ++ marked (mark.Operator operator) ∷ []
pending_terminals (calls f) = terminals (fun_pieces f)
pending_terminals (shifts r way) = terminals (ratio_pieces r) ++ marked (mark.Shift way) ∷ []

-- a number in round brackets, without these
abbrev pub number_terminals : Plain → List Terminal
number_terminals (Bare n) = numbered n ∷ []
number_terminals (Signed negative n) = terminals (minus negative) ++ numbered n ∷ []
number_terminals (Quotient negative a b) = terminals (minus negative) ++ numbered a ∷ marked mark.Slash ∷ numbered b ∷ []

abbrev pub bound_terminals : Option Plain → List Terminal
bound_terminals None = []
bound_terminals (Some a) = terminals (plain_pieces a) ++ marked mark.Comma ∷ []

abbrev pub front_terminals : Front → List Terminal
front_terminals alone = []
front_terminals (plays o) = worded (name.Orbit o) ∷ marked mark.Dollar ∷ []
front_terminals (jumps n every) =
    worded name.JumpMod ∷ numbered (whole_number n) ∷ numbered (whole_number every) ∷ marked mark.Dollar ∷ []

-- ---- what is read behind other terminals
abbrev pub then_spot : List Terminal → Spot → List Terminal
then_spot base first = base
then_spot base at_operand = base
then_spot base (after_dot g) = base ++ (terminals (fun_pieces g) ++ marked mark.Dot ∷ [])

abbrev pub then_level : List Terminal → List Pending → List Terminal
then_level base [] = base
then_level base (p ∷ level) = then_level base level ++ pending_terminals p

-- what stands before a function in a round bracket
abbrev pub before_round : List Terminal → Bracketed → List Terminal
before_round base anything = base
before_round base expr_or_number = base
before_round base fun_or_number = base
before_round base (fun_after g) = base ++ (terminals (fun_pieces g) ++ marked mark.Dot ∷ [])
before_round base (argument spot call) = then_spot base spot ++ fun_call_terminals call

abbrev pub then_round : List Terminal → Bracketed → List Terminal
then_round base r = before_round base r ++ marked mark.OpenRound ∷ []

abbrev pub then_hole : List Terminal → Hole → List Terminal
then_hole base (round r) = then_round base r
then_hole base (section r operator) = then_round base r ++ marked (mark.Operator operator) ∷ []
then_hole base (measure spot call) = then_spot base spot ++ ratio_call_terminal call ∷ marked mark.OpenRound ∷ []
then_hole base (bounds spot) = then_spot base spot ++ worded name.Within ∷ marked mark.OpenRound ∷ []
then_hole base (bound from) = base ++ (bound_terminals from ++ marked mark.OpenRound ∷ [])
then_hole base (setting key) = base ++ worded (name.Key key) ∷ marked mark.OpenRound ∷ []
then_hole base (constant spot) = then_spot base spot ++ worded name.Const ∷ []
then_hole base (list shape es) =
    base ++ worded (name.List shape) ∷ marked mark.OpenSquare ∷ (terminals (exprs_pieces es) ++ terminals (comma_after es))
then_hole base (timecat ps) =
    base ++ worded name.Timecat ∷ marked mark.OpenSquare ∷ (terminals (parts_pieces ps) ++ terminals (comma_after_parts ps))
then_hole base unweighed = base ++ marked mark.OpenRound ∷ []
then_hole base (weighed n) = base ++ marked mark.OpenRound ∷ numbered n ∷ marked mark.Comma ∷ []

-- a `timecat` with no `,` after its last part
abbrev pub then_parts : List Terminal → Hole → List Terminal
then_parts base (timecat ps) = base ++ worded name.Timecat ∷ marked mark.OpenSquare ∷ terminals (parts_pieces ps)
then_parts base _ = base

abbrev pub then_stage : List Terminal → Stage → List Terminal
then_stage base (flagging f) = base ++ worded (name.Flag f) ∷ []
then_stage base (addressed o) = base ++ worded (name.Orbit o) ∷ []
then_stage base jumping = base ++ worded name.JumpMod ∷ []
then_stage base (jumping_at n) = base ++ worded name.JumpMod ∷ numbered (whole_number n) ∷ []
then_stage base (jumped n every) = base ++ worded name.JumpMod ∷ numbered (whole_number n) ∷ numbered (whole_number every) ∷ []
then_stage base (done l) = base ++ terminals (line_pieces l)
then_stage base (wanting spot) = then_spot base spot
then_stage base (opened n at) = base ++ numbered n ∷ []
then_stage base (measured r) = base ++ terminals (ratio_pieces r)
then_stage base (shifted r way) = base ++ (terminals (ratio_pieces r) ++ marked (mark.Shift way) ∷ [])
then_stage base (expressed e) = base ++ terminals (expr_pieces e)
then_stage base (named f) = base ++ terminals (fun_pieces f)
then_stage base (chained f) = base ++ terminals (fun_pieces f)
then_stage base (keyed key) = base ++ worded (name.Key key) ∷ []
then_stage base negating = base ++ marked mark.Minus ∷ []
then_stage base (negated n) = base ++ marked mark.Minus ∷ numbered n ∷ []
then_stage base (listing shape) = base ++ worded (name.List shape) ∷ []
then_stage base timing = base ++ worded name.Timecat ∷ []
then_stage base (weighted n) = base ++ numbered n ∷ []
then_stage base (asking_ratio spot call) = then_spot base spot ++ ratio_call_terminal call ∷ []
then_stage base (asking_count spot call) = then_spot base spot ++ count_call_terminals call
then_stage base (asking_bools spot f) = then_spot base spot ++ worded (name.OfBools f) ∷ []
then_stage base (asking_fun spot call) = then_spot base spot ++ fun_call_terminals call
then_stage base (asking_bounds spot) = then_spot base spot ++ worded name.Within ∷ []
then_stage base (bounding from) = base ++ bound_terminals from
then_stage base (bounded from p) = base ++ (bound_terminals from ++ terminals (plain_pieces p))
then_stage base negation = base ++ marked mark.Minus ∷ []
then_stage base (above negative n at) = base ++ (terminals (minus negative) ++ numbered n ∷ [])
then_stage base (slash negative a) = base ++ (terminals (minus negative) ++ numbered a ∷ marked mark.Slash ∷ [])
then_stage base (closing p) = base ++ number_terminals p
then_stage base _ = base

-- ---- what is read
abbrev pub frames_read : Front → List Frame → List Terminal
frames_read front [] = front_terminals front
frames_read front (f ∷ frames) = then_hole (then_level (frames_read front frames) f.level) f.hole

abbrev pub parts_read : Front → List Frame → List Terminal
parts_read front [] = []
parts_read front (f ∷ frames) = then_parts (then_level (frames_read front frames) f.level) f.hole

-- before the stage
abbrev pub around : Kept → List Terminal
around k = then_level (frames_read k.front k.frames) k.level

abbrev pub spelled : Kept → Stage → List Terminal
spelled k (ended w) = terminals (spell w)
spelled k part_read = parts_read k.front k.frames
spelled k p = then_stage (around k) p

-- ---- forms
-- a `$`, or an operator, may stand in what is open
abbrev pub takes_dollar : Hole → Bool
takes_dollar (section r operator) = false
takes_dollar (constant spot) = false
takes_dollar _ = true

abbrev pub takes_operator : Hole → Bool
takes_operator (constant spot) = false
takes_operator _ = true

abbrev pub has_dollars : List Frame → Bool
has_dollars [] = true
has_dollars (f ∷ frames) = takes_dollar f.hole

abbrev pub has_operators : List Frame → Bool
has_operators [] = true
has_operators (f ∷ frames) = takes_operator f.hole

-- functions with a `$` alone are pending
abbrev pub FitApplied : List Frame → List Pending → Type 0
FitApplied frames [] = Unit {0}
FitApplied frames (applies f ∷ level) = IsTrue (has_dollars frames) × FormedFun f × FitApplied frames level
FitApplied frames (p ∷ level) = ⊥

abbrev pub FitLevel : List Frame → List Pending → Type 0
FitLevel frames [] = Unit {0}
FitLevel frames (applies f ∷ level) = IsTrue (has_dollars frames) × FormedFun f × FitApplied frames level
FitLevel frames (joins e operator ∷ level) = IsTrue (has_operators frames) × IsTrue (is_joined e) × Formed e × FitApplied frames level
FitLevel frames (calls f ∷ level) = IsTrue (is_named f) × FormedFun f × FitLevel frames level
FitLevel frames (shifts r way ∷ level) = FitLevel frames level

abbrev pub FitBegin : List Frame → List Pending → Type 0
FitBegin frames level = IsTrue (has_dollars frames) × FitApplied frames level

abbrev pub FitSpot : List Frame → List Pending → Spot → Type 0
FitSpot frames level first = FitBegin frames level
FitSpot frames level at_operand = FitLevel frames level
FitSpot frames level (after_dot g) = FormedFun g × FitBegin frames level

abbrev pub FitRound : List Frame → List Pending → Bracketed → Type 0
FitRound frames level anything = FitBegin frames level
FitRound frames level expr_or_number = FitLevel frames level
FitRound frames level fun_or_number = FitBegin frames level
FitRound frames level (fun_after g) = FormedFun g × FitBegin frames level
FitRound frames level (argument spot call) = FitSpot frames level spot

abbrev pub FitHole : List Frame → List Pending → Hole → Type 0
FitHole frames level (round r) = FitRound frames level r
FitHole frames level (section r operator) = FitRound frames level r
FitHole frames level (measure spot call) = FitSpot frames level spot
FitHole frames level (bounds spot) = FitSpot frames level spot
FitHole frames level (bound from) = level ≡ []
FitHole frames level (setting key) = IsTrue (not (takes_word key)) × FitLevel frames level
FitHole frames level (constant spot) = FitSpot frames level spot
FitHole frames level (list shape es) = FormedExprs es × FitLevel frames level
FitHole frames level (timecat ps) = FormedParts ps × FitLevel frames level
FitHole frames level unweighed = level ≡ []
FitHole frames level (weighed n) = level ≡ []

abbrev pub FitFront : Goal → Front → Type 0
FitFront a_line alone = ⊥
FitFront a_line front = Unit {0}
FitFront a_pattern alone = Unit {0}
FitFront a_pattern front = ⊥

abbrev pub FitFrames : Goal → Front → List Frame → Type 0
FitFrames goal front [] = FitFront goal front
FitFrames goal front (f ∷ frames) = FitHole frames f.level f.hole × FitFrames goal front frames

-- a `timecat` with a part
abbrev pub IsParted : Hole → Type 0
IsParted (timecat (part ps n e)) = Unit {0}
IsParted _ = ⊥

abbrev pub IsEmptyList : Hole → Type 0
IsEmptyList (list shape no_expr) = Unit {0}
IsEmptyList _ = ⊥

abbrev pub IsEmptyParts : Hole → Type 0
IsEmptyParts (timecat no_part) = Unit {0}
IsEmptyParts _ = ⊥

abbrev pub IsUnweighed : Hole → Type 0
IsUnweighed unweighed = Unit {0}
IsUnweighed _ = ⊥

abbrev pub InHole : (Hole → Type 0) → List Frame → Type 0
InHole P [] = ⊥
InHole P (f ∷ frames) = P f.hole

abbrev pub IsBracketed : Plain → Type 0
IsBracketed (Bare n) = ⊥
IsBracketed (Signed negative n) = Unit {0}
IsBracketed (Quotient negative a b) = Unit {0}

abbrev pub FitStage : Kept → Stage → Type 0
FitStage k (wanting spot) = FitSpot k.frames k.level spot
FitStage k opening = (k.level ≡ []) × IsTrue (has_dollars k.frames)
FitStage k (measured r) = FitLevel k.frames k.level
FitStage k (shifted r way) = FitLevel k.frames k.level
FitStage k (expressed e) = IsTrue (has_operators k.frames) × IsTrue (is_joined e) × Formed e × FitApplied k.frames k.level
FitStage k (named f) = IsTrue (is_named f) × FormedFun f × FitBegin k.frames k.level
FitStage k (chained f) = FormedFun f × FitBegin k.frames k.level
FitStage k (keyed key) = FitLevel k.frames k.level
FitStage k (listing shape) = FitLevel k.frames k.level
FitStage k list_open = (k.level ≡ []) × IsTrue (has_dollars k.frames) × InHole IsEmptyList k.frames
FitStage k timing = FitLevel k.frames k.level
FitStage k parts_open = (k.level ≡ []) × InHole IsEmptyParts k.frames
FitStage k part_read = (k.level ≡ []) × InHole IsParted k.frames
FitStage k weighing = (k.level ≡ []) × InHole IsUnweighed k.frames
FitStage k (weighted n) = (k.level ≡ []) × InHole IsUnweighed k.frames
FitStage k (asking_ratio spot call) = FitSpot k.frames k.level spot
FitStage k (asking_count spot call) = FitSpot k.frames k.level spot
FitStage k (asking_bools spot f) = FitSpot k.frames k.level spot
FitStage k (asking_fun spot call) = FitSpot k.frames k.level spot
FitStage k (asking_bounds spot) = FitSpot k.frames k.level spot
FitStage k (closing p) = (k.level ≡ []) × IsBracketed p
FitStage k _ = k.level ≡ []

abbrev pub top : Front → Kept
top front = record { frames = []; level = []; depth = 0; front = front }

-- a line before its expression
abbrev pub IsStart : Goal → Kept → Type 0
IsStart goal k = (goal ≡ a_line) × (k ≡ top alone)

abbrev pub Fit : Goal → Kept → Stage → Type 0
Fit goal k beginning = IsStart goal k
Fit goal k (flagging f) = IsStart goal k
Fit goal k (addressed o) = IsStart goal k
Fit goal k jumping = IsStart goal k
Fit goal k (jumping_at n) = IsStart goal k
Fit goal k (jumped n every) = IsStart goal k
Fit goal k (done l) = IsStart goal k × FormedLine l
Fit goal k (ended w) = FormedWhole goal w
Fit goal k p = FitFrames goal k.front k.frames × FitStage k p

-- ---- a token
pub record Grows (t : Tok) (before after : List Terminal) : Type 0 where
  pub next : Terminal
  pub reads : after ≡ before ++ next ∷ []
  pub stands : IsTokenOf next t

abbrev pub kept_of : Core → Kept
kept_of c = record { frames = c.frames; level = c.level; depth = c.depth; front = c.front }

pub record Went (goal : Goal) (t : Tok) (before : List Terminal) (s : State) : Type 0 where
  pub grows : Grows t before (spelled (kept_of s.core) s.stage)
  pub fit : Fit goal (kept_of s.core) s.stage

-- the token is read after these terminals, if the step goes on
abbrev pub Goes : Goal → Tok → List Terminal → Step → Type 0
Goes goal t before r = Keeps (Went goal t before) r

pub grows_by : {t : Tok} {before : List Terminal} (x : Terminal) → IsTokenOf x t → Grows t before (before ++ x ∷ [])
grows_by x stands = record { next = x; reads = refl; stands = stands }

-- behind terminals that stay
pub grows_in : {t : Tok} (base a : List Terminal) (x : Terminal) → IsTokenOf x t → Grows t (base ++ a) (base ++ (a ++ x ∷ []))
grows_in base a x stands = record { next = x; reads = sym (append_assoc base a (x ∷ [])); stands = stands }

pub grows_behind : {t : Tok} (base a b : List Terminal) (x : Terminal) → IsTokenOf x t → Grows t (base ++ (a ++ b)) (base ++ (a ++ (b ++ x ∷ [])))
grows_behind base a b x stands = record { next = x; reads = simp append_assoc; stands = stands }

-- a round bracket closes
pub closes_in : (base a inside all : List Terminal) → all ≡ marked mark.OpenRound ∷ (inside ++ marked mark.CloseRound ∷ [])
    → Grows (token.mark mark.CloseRound) ((base ++ (a ++ marked mark.OpenRound ∷ [])) ++ inside) (base ++ (a ++ all))
closes_in base a inside all e = record { next = marked mark.CloseRound; reads = rw e (simp append_assoc); stands = refl }

pub grows_to : {t : Tok} {before after other : List Terminal} → other ≡ after → Grows t before after → Grows t before other
grows_to e g = record { next = g.next; reads = e ∙ g.reads; stands = g.stands }

pub goes_from : (goal : Goal) (t : Tok) {before other : List Terminal} (r : Step) → other ≡ before → Goes goal t before r → Goes goal t other r
goes_from goal t {before} {other} r e h = subst (λ (ts : List Terminal). Goes goal t ts r) (sym e) h

-- nothing is pending
pub bare : (k : Kept) → k.level ≡ [] → around k ≡ frames_read k.front k.frames
bare k e = ap (λ level. then_level (frames_read k.front k.frames) level) e

pub at_mark_goes : (goal : Goal) (before : List Terminal) (c : Core) (t : Tok) (next : Tok → Mark → Step)
    → ((m : Mark) → Goes goal (token.mark m) before (next (token.mark m) m)) → Goes goal t before (at_mark c t (next t))
at_mark_goes goal before c (token.mark m) next h = h m
at_mark_goes goal before c t next h = tt
