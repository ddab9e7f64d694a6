-- What the machine reads of a mark between elements: holds, repeats, dots, commas and brackets.
use Rattle.std.specs.Prelude.{if◌then◌else◌, nat_lt, IsTrue}
use Rattle.std.proofs.Common.{◌≡◌, ℕ, suc, ◌<◌, Bool, true, false, Ok, Some, List, [], ◌∷◌, ◌++◌, length, refl, ap, ◌∙◌, arith}
use Rattle.std.proofs.lemmas.Bool.Decides.{nat_tests}
use Rattle.tdl_mini_tree.specs.declared.leaves.Kind.{Kind}
use Rattle.tdl_mini_tree.specs.declared.leaves.Kind.TheVariants.{Count, Ratio}
use Rattle.tdl_mini_tree.specs.declared.leaves.Bracket.{Bracket}
use Rattle.tdl_mini_tree.specs.declared.leaves.Bracket.TheVariants.{Square, Angle, Brace}
use Rattle.tdl_mini_machine.specs.declared.marks.Mark.TheVariants as mark
use Rattle.tdl_mini_machine.specs.Tokens.{Tok}
use Rattle.tdl_mini_machine.specs.Tokens as token
use Rattle.tdl_mini_machine.specs.Rules.{size_rule, repeat_rule, euclid_rule, euclid_from_rule, Test, test_at}
use Rattle.tdl_mini_grammar.specs.Spelling.{Terminal, sign, dot_after, braces_pieces}
use Rattle.tdl_mini_tree.specs.Tree.{kind_after, Layers, no_layer, layer, Sequence, no_group, group, Group, MiniStep, Braces, no_brace, brace, no_element}
use Rattle.tdl_mini_tree.specs.Tree.{element, is_empty_group, hold, repeat, euclid, euclid_from}
use Rattle.tdl_mini_grammar.specs.Grammar.{IsFilled, HasElement, Formed}
use Rattle.tdl_mini_grammar.specs.Tests.{after, tests_from}
use Rattle.tdl_mini_machine.specs.Machine.States.{State, Level, Frame, Role, Hole, Stage, ready, wanting, stepping, repeating, operand, term, faster}
use Rattle.tdl_mini_machine.specs.Machine.States.{slower, hits, steps, from, Taken, and_then, checked, all_checked, begun_at, first_level, closed_layers}
use Rattle.tdl_mini_machine.specs.Machine.States.{is_same_bracket, pending, ends_step, refused}
use Rattle.tdl_mini_machine.specs.Machine.Brackets.{after_bracket, opened_at, with_arguments, parted_hole}
use Rattle.tdl_mini_machine.specs.Machine.Marks.{continued, with_hold, with_repeat}
use Rattle.tdl_mini_machine.specs.Machine.Settling.{unfit}
use Rattle.tdl_mini_grammar.proofs.Running.{state, all_checked-and_then, Runs, runs_sign, runs_mark, runs_then}
use Rattle.tdl_mini_grammar.proofs.Settling.{Pends, runs_ready, pends_runs}
use Rattle.tdl_mini_grammar.proofs.Pieces.{if_true, grouped}

if_false : (b : Bool) (x y : Taken) → b ≡ false → (if b then x else y) ≡ y
if_false true x y h = cc
if_false false x y h = refl

filled_group : (g : Group) → HasElement g → is_empty_group g ≡ false
filled_group no_element h = absurd h
filled_group (element g e) h = refl

below_limit : (n : ℕ) → n < 16 → IsTrue (nat_lt n 16)
below_limit n h = grind (arith, nat_tests)

-- ---- elements that are one mark
hold_taken :
    (tested : Bool) (frames : List Frame) (kind : Kind) (ls : Layers) (seq : Sequence) (g : Group) (start at : ℕ) (t : Tok) →
    HasElement g →
    with_hold tested (state frames (grouped kind ls seq g start) ready at) t ≡ all_checked tested
    (test_at at (size_rule seq (element g hold)) ∷ []) (Ok (state frames (grouped kind ls seq (element g hold) start) ready (suc at)))
hold_taken tested frames kind ls seq g start at t h = if_false (is_empty_group g) _ _ (filled_group g h)

pub hold_pends :
    (tested : Bool) (frames : List Frame) (kind : Kind) (ls : Layers) (seq : Sequence) (g : Group) (start at : ℕ) →
    HasElement g →
    Pends tested (state frames (grouped kind ls seq g start) ready at) (sign mark.Hold ∷ [])
    (test_at at (size_rule seq (element g hold)) ∷ []) frames (grouped kind ls seq (element g hold)) (suc at)
hold_pends tested frames kind ls seq g start at h =
    runs_ready (grouped kind ls seq (element g hold)) start
    (runs_sign mark.Hold (hold_taken tested frames kind ls seq g start at (token.mark mark.Hold) h))

repeat_taken :
    (frames : List Frame) (kind : Kind) (ls : Layers) (seq : Sequence) (g : Group) (start at : ℕ) (t : Tok) (b : Bool) → HasElement g →
    with_repeat (state frames (grouped kind ls seq g start) ready at) t b ≡ Ok (state frames (grouped kind ls seq g at) (repeating b) (suc at))
repeat_taken frames kind ls seq g start at t b h = if_false (is_empty_group g) _ _ (filled_group g h)

pub repeat_pends :
    {tested : Bool} {s : State} {a : List Terminal} {ts : List Test} {frames : List Frame} {kind : Kind} {ls : Layers} {seq : Sequence} {g : Group} {at : ℕ} →
    Pends tested s a ts frames (grouped kind ls seq g) at → HasElement g →
    Pends tested s (a ++ sign mark.Repeat ∷ []) (ts ++ test_at at (repeat_rule seq (element g repeat)) ∷ []) frames
    (grouped kind ls seq (element g repeat)) (suc at)
repeat_pends {tested} {s} {a} {ts} {frames} {kind} {ls} {seq} {g} {at} p h =
    let b = ends_step p.there.stage in
    let next : State → Taken = λ f. with_repeat f (token.mark mark.Repeat) b in
    record {
      start = at;
      early = p.early ++ p.late;
      late = test_at at (repeat_rule seq (element g repeat)) ∷ [];
      there = state frames (grouped kind ls seq g at) (repeating b) (suc at);
      runs = runs_then p.runs
          (runs_sign mark.Repeat
          (ap (λ r. and_then r next) (p.settles (token.mark mark.Repeat))
          ∙ all_checked-and_then tested p.late (Ok (state frames (grouped kind ls seq g p.start) ready at)) next
          ∙ ap (all_checked tested p.late) (repeat_taken frames kind ls seq g p.start at (token.mark mark.Repeat) b h)));
      settles = λ t. refl;
      is_open = tt;
      split = ap (λ x. x ++ test_at at (repeat_rule seq (element g repeat)) ∷ []) p.split;
    }

-- ---- dots and commas
pub dot_runs :
    (tested : Bool) (frames : List Frame) (kind : Kind) (ls : Layers) (seq : Sequence) (g : Group) (start at : ℕ) →
    Runs tested (state frames (grouped kind ls seq g start) ready at) (sign mark.Dot ∷ []) (tests_from at (dot_after (group seq g)))
    (state frames (grouped kind ls (group seq g) no_element 0) ready (suc at))
dot_runs tested frames kind ls seq g start at = runs_sign mark.Dot refl

-- a comma between layers, and not between arguments
abbrev pub PartsHole : Hole → Type 0
PartsHole (operand role bs b) = Unit {0}
PartsHole (hits step) = ⊥
PartsHole (steps step k) = ⊥
PartsHole (from step k n) = ⊥

abbrev pub Parts : List Frame → Type 0
Parts [] = Unit {0}
Parts (f ∷ frames) = PartsHole f.hole

parted_at :
    (s : State) (t : Tok) (l : Level) (frames : List Frame) (hole : Hole) → PartsHole hole →
    parted_hole s t l frames hole ≡ Ok (state s.frames (grouped s.level.kind (closed_layers s.level) no_group no_element 0) ready (suc s.read))
parted_at s t l frames (operand role bs b) h = refl
parted_at s t l frames (hits step) h = absurd h
parted_at s t l frames (steps step k) h = absurd h
parted_at s t l frames (from step k n) h = absurd h

pub comma_runs :
    (tested : Bool) (frames : List Frame) → Parts frames →
    (kind : Kind) (ls : Layers) (seq : Sequence) (g : Group) (start at : ℕ) →
    Runs tested (state frames (grouped kind ls seq g start) ready at) (sign mark.Comma ∷ []) []
    (state frames (grouped kind (layer ls (group seq g)) no_group no_element 0) ready (suc at))
comma_runs tested [] h kind ls seq g start at = runs_mark mark.Comma refl
comma_runs tested (f ∷ frames) h kind ls seq g start at =
    runs_mark mark.Comma (parted_at (state (f ∷ frames) (grouped kind ls seq g start) ready at) (token.mark mark.Comma) f.level frames f.hole h)

-- ---- the level of what is read of a sequence, or of layers
abbrev pub sequence_level : Kind → Layers → Sequence → ℕ → Level
sequence_level kind ls no_group start = grouped kind ls no_group no_element start
sequence_level kind ls (group s g) start = grouped kind ls s g start

abbrev pub layers_level : Kind → Layers → ℕ → Level
layers_level kind no_layer start = grouped kind no_layer no_group no_element start
layers_level kind (layer ls s) start = sequence_level kind ls s start

pub closed_level : (kind : Kind) (depth : ℕ) (ls : Layers) → IsFilled ls → Formed kind depth ls → (start : ℕ) → closed_layers (layers_level kind ls start) ≡ ls
closed_level kind depth no_layer filled formed start = absurd filled
closed_level kind depth (layer ls no_group) filled formed start = absurd formed.1
closed_level kind depth (layer ls (group s g)) filled formed start = refl

-- ---- operands
-- what an operand is read as: its kind, the level round it, and where it begins
abbrev pub role_kind : Role → Kind → Kind
role_kind term kind = kind
role_kind (faster step) kind = Ratio
role_kind (slower step) kind = Ratio

abbrev pub base : Role → Level → ℕ → Level
base term l at = begun_at l at
base (faster step) l at = l
base (slower step) l at = l

abbrev pub entry : Role → Stage
entry term = ready
entry (faster step) = wanting (faster step) no_brace
entry (slower step) = wanting (slower step) no_brace

-- the state after some braces of an operand
abbrev pub between : Role → Braces → List Frame → Level → ℕ → ℕ → State
between role no_brace frames l at to = state frames l (entry role) to
between role (brace bs ls) frames l at to = state frames (base role l at) (wanting role (brace bs ls)) to

abbrev pub frame : Role → Braces → Bracket → Level → ℕ → Frame
frame role bs b l at = record { level = base role l at; hole = operand role bs b }

-- the state in a bracket of an operand
abbrev pub inside : Role → Braces → Bracket → List Frame → Level → ℕ → ℕ → State
inside role bs b frames l at next = state (frame role bs b l at ∷ frames) (first_level (kind_after (role_kind role l.kind) bs)) ready next

pub open_runs :
    (tested : Bool) (role : Role) (bs : Braces) (b : Bracket) (frames : List Frame) (l : Level) (at to : ℕ) →
    length frames < 16 → to ≡ after at (braces_pieces (role_kind role l.kind) bs) →
    Runs tested (between role bs frames l at to) (sign (mark.Open b) ∷ []) [] (inside role bs b frames l at (suc to))
open_runs tested term no_brace b frames l at to few e =
    runs_mark (mark.Open b)
    (if_true (nat_lt (length frames) 16) _ _ (below_limit (length frames) few)
    ∙ ap (λ (k : ℕ). Ok (state (record { level = begun_at l k; hole = operand term no_brace b } ∷ frames) (first_level l.kind) ready (suc to))) e)
open_runs tested (faster step) no_brace b frames l at to few e =
    runs_mark (mark.Open b) (if_true (nat_lt (length frames) 16) _ _ (below_limit (length frames) few))
open_runs tested (slower step) no_brace b frames l at to few e =
    runs_mark (mark.Open b) (if_true (nat_lt (length frames) 16) _ _ (below_limit (length frames) few))
open_runs tested role (brace bs ls) b frames l at to few e = runs_mark (mark.Open b) (if_true (nat_lt (length frames) 16) _ _ (below_limit (length frames) few))

same_bracket : (b : Bracket) (x y : Taken) → (if is_same_bracket b b then x else y) ≡ x
same_bracket Square x y = refl
same_bracket Angle x y = refl
same_bracket Brace x y = refl

pub close_runs :
    (tested : Bool) (role : Role) (bs : Braces) (b : Bracket) (frames : List Frame) (outer inner : Level) (ls : Layers) (at : ℕ) →
    closed_layers inner ≡ ls →
    Runs tested (state (record { level = outer; hole = operand role bs b } ∷ frames) inner ready at) (sign (mark.Close b) ∷ []) []
    (state frames outer (after_bracket role bs b ls) (suc at))
close_runs tested role bs b frames outer inner ls at e =
    runs_mark (mark.Close b)
    (same_bracket b _ _ ∙ ap (λ x. Ok (state frames outer (after_bracket role bs b x) (suc at))) e)

-- what is in a bracket, and the bracket's end
pub bracket_runs :
    {tested : Bool} {s : State} {a : List Terminal} {ts : List Test} {frames : List Frame} {to : ℕ} (role : Role) (bs : Braces) (b : Bracket) (l : Level)
    (at : ℕ) (level : ℕ → Level) (ls : Layers) →
    Pends tested s a ts (frame role bs b l at ∷ frames) level to →
    ((start : ℕ) → closed_layers (level start) ≡ ls) →
    Runs tested s (a ++ sign (mark.Close b) ∷ []) (ts ++ []) (state frames (base role l at) (after_bracket role bs b ls) (suc to))
bracket_runs {tested} {s} {a} {ts} {frames} {to} role bs b l at level ls p same =
    pends_runs p (sign (mark.Close b) ∷ []) tt [] (state frames (base role l at) (after_bracket role bs b ls) (suc to))
    (λ start. close_runs tested role bs b frames (base role l at) (level start) ls to (same start))

-- ---- Euclids
pub round_runs :
    (tested : Bool) (frames : List Frame) (l : Level) (p : Stage) (at : ℕ) (step : MiniStep) → pending p ≡ Some step →
    length frames < 16 →
    Runs tested (state frames l p at) (sign mark.OpenRound ∷ []) [] (state (record { level = l; hole = hits step } ∷ frames) (first_level Count) ready (suc at))
round_runs tested frames l p at step e few =
    let s = state frames l p at in
    let t = token.mark mark.OpenRound in
    let h = below_limit (length frames) few in
    runs_mark mark.OpenRound
    (ap (λ o. continued tested s t o (with_arguments tested s t)) e
    ∙ if_true (nat_lt (length frames) 16) (opened_at s t l (hits step) Count) (unfit tested s t) h
    ∙ if_true (nat_lt (length frames) 16) _ (refused s t) h)

-- a comma after an argument
hits_comma :
    (tested : Bool) (frames : List Frame) (l inner : Level) (step : MiniStep) (k : Layers) (at : ℕ) →
    closed_layers inner ≡ k →
    Runs tested (state (record { level = l; hole = hits step } ∷ frames) inner ready at) (sign mark.Comma ∷ []) []
    (state (record { level = l; hole = steps step k } ∷ frames) (first_level Count) ready (suc at))
hits_comma tested frames l inner step k at e = runs_mark mark.Comma
    (ap (λ x. Ok (state (record { level = l; hole = steps step x } ∷ frames) (first_level Count) ready (suc at))) e)

steps_comma :
    (tested : Bool) (frames : List Frame) (l inner : Level) (step : MiniStep) (k n : Layers) (at : ℕ) →
    closed_layers inner ≡ n →
    Runs tested (state (record { level = l; hole = steps step k } ∷ frames) inner ready at) (sign mark.Comma ∷ []) []
    (state (record { level = l; hole = from step k n } ∷ frames) (first_level Count) ready (suc at))
steps_comma tested frames l inner step k n at e = runs_mark mark.Comma
    (ap (λ x. Ok (state (record { level = l; hole = from step k x } ∷ frames) (first_level Count) ready (suc at))) e)

pub hits_runs :
    {tested : Bool} {s : State} {a : List Terminal} {ts : List Test} {frames : List Frame} {to : ℕ} (l : Level) (level : ℕ → Level) (step : MiniStep)
    (k : Layers) →
    Pends tested s a ts (record { level = l; hole = hits step } ∷ frames) level to →
    ((start : ℕ) → closed_layers (level start) ≡ k) →
    Runs tested s (a ++ sign mark.Comma ∷ []) (ts ++ []) (state (record { level = l; hole = steps step k } ∷ frames) (first_level Count) ready (suc to))
hits_runs {tested} {s} {a} {ts} {frames} {to} l level step k p same =
    pends_runs p (sign mark.Comma ∷ []) tt [] _ (λ start. hits_comma tested frames l (level start) step k to (same start))

pub steps_runs :
    {tested : Bool} {s : State} {a : List Terminal} {ts : List Test} {frames : List Frame} {to : ℕ} (l : Level) (level : ℕ → Level) (step : MiniStep)
    (k n : Layers) →
    Pends tested s a ts (record { level = l; hole = steps step k } ∷ frames) level to →
    ((start : ℕ) → closed_layers (level start) ≡ n) →
    Runs tested s (a ++ sign mark.Comma ∷ []) (ts ++ []) (state (record { level = l; hole = from step k n } ∷ frames) (first_level Count) ready (suc to))
steps_runs {tested} {s} {a} {ts} {frames} {to} l level step k n p same =
    pends_runs p (sign mark.Comma ∷ []) tt [] _ (λ start. steps_comma tested frames l (level start) step k n to (same start))

-- the end of the arguments
steps_end :
    (tested : Bool) (frames : List Frame) (l inner : Level) (step : MiniStep) (k n : Layers) (at : ℕ) →
    closed_layers inner ≡ n →
    Runs tested (state (record { level = l; hole = steps step k } ∷ frames) inner ready at) (sign mark.CloseRound ∷ [])
    (test_at at (euclid_rule k n) ∷ []) (state frames l (stepping (euclid step k n)) (suc at))
steps_end tested frames l inner step k n at e =
    runs_sign mark.CloseRound
    (ap (λ x. checked tested (test_at at (euclid_rule k x))
    (Ok (state frames l (stepping (euclid step k x)) (suc at)))) e)

from_end :
    (tested : Bool) (frames : List Frame) (l inner : Level) (step : MiniStep) (k n r : Layers) (at : ℕ) →
    closed_layers inner ≡ r →
    Runs tested (state (record { level = l; hole = from step k n } ∷ frames) inner ready at) (sign mark.CloseRound ∷ [])
    (test_at at (euclid_from_rule k n r) ∷ [])
    (state frames l (stepping (euclid_from step k n r)) (suc at))
from_end tested frames l inner step k n r at e =
    runs_sign mark.CloseRound
    (ap (λ x. checked tested (test_at at (euclid_from_rule k n x))
    (Ok (state frames l (stepping (euclid_from step k n x)) (suc at)))) e)

pub steps_ended :
    {tested : Bool} {s : State} {a : List Terminal} {ts : List Test} {frames : List Frame} {to : ℕ} (l : Level) (level : ℕ → Level) (step : MiniStep)
    (k n : Layers) →
    Pends tested s a ts (record { level = l; hole = steps step k } ∷ frames) level to →
    ((start : ℕ) → closed_layers (level start) ≡ n) →
    Runs tested s (a ++ sign mark.CloseRound ∷ []) (ts ++ test_at to (euclid_rule k n) ∷ [])
    (state frames l (stepping (euclid step k n)) (suc to))
steps_ended {tested} {s} {a} {ts} {frames} {to} l level step k n p same =
    pends_runs p (sign mark.CloseRound ∷ []) tt _ _ (λ start. steps_end tested frames l (level start) step k n to (same start))

pub from_ended :
    {tested : Bool} {s : State} {a : List Terminal} {ts : List Test} {frames : List Frame} {to : ℕ} (l : Level) (level : ℕ → Level) (step : MiniStep)
    (k n r : Layers) →
    Pends tested s a ts (record { level = l; hole = from step k n } ∷ frames) level to →
    ((start : ℕ) → closed_layers (level start) ≡ r) →
    Runs tested s (a ++ sign mark.CloseRound ∷ []) (ts ++ test_at to (euclid_from_rule k n r) ∷ [])
    (state frames l (stepping (euclid_from step k n r)) (suc to))
from_ended {tested} {s} {a} {ts} {frames} {to} l level step k n r p same =
    pends_runs p (sign mark.CloseRound ∷ []) tt _ _ (λ start. from_end tested frames l (level start) step k n r to (same start))
