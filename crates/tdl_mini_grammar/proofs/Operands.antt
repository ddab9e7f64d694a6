-- What the machine reads of operands and steps, from what it reads of their parts.
use Rattle.std.specs.Prelude.{if◌then◌else◌}
use Rattle.std.proofs.Common.{◌≡◌, ℕ, suc, ◌<◌, Bool, true, false, Some, None, List, [], ◌∷◌, length, refl}
use Rattle.tdl_mini_tree.specs.declared.leaves.Kind.{Kind}
use Rattle.tdl_mini_tree.specs.declared.leaves.Kind.TheVariants.{Count}
use Rattle.tdl_mini_tree.specs.declared.leaves.Number.{Number}
use Rattle.tdl_mini_tree.specs.declared.leaves.Bracket.{Bracket}
use Rattle.tdl_mini_tree.specs.declared.leaves.Bracket.TheVariants.{Square, Angle, Brace}
use Rattle.tdl_mini_machine.specs.declared.marks.Mark.TheVariants as mark
use Rattle.tdl_mini_machine.specs.Rules.{factor_rule, test_at}
use Rattle.tdl_mini_grammar.specs.Spelling.{sign, numeral, layers_pieces, step_pieces, operand_pieces, braces_pieces}
use Rattle.tdl_mini_tree.specs.Tree.{kind_after, Layers, MiniStep, Operand, scaled, nested, Braces, no_brace, brace, begins, value, rest, bracketed, fast}
use Rattle.tdl_mini_tree.specs.Tree.{slow, euclid, euclid_from}
use Rattle.tdl_mini_machine.specs.NumberForms.{is_end}
use Rattle.tdl_mini_grammar.specs.Grammar.{IsFilled, HasBrace, IsBracketed, Formed, FormedStep}
use Rattle.tdl_mini_grammar.specs.Tests.{after, tests_from}
use Rattle.tdl_mini_machine.specs.Machine.States.{Level, Frame, Role, Hole, Stage, ready, numbered, stepping, term, faster, slower, hits, steps, begun_at}
use Rattle.tdl_mini_machine.specs.Machine.States.{first_level, pending, step_by_role}
use Rattle.tdl_mini_machine.specs.Machine.Brackets.{after_bracket}
use Rattle.tdl_mini_machine.specs.Machine.Values.{value_stage}
use Rattle.tdl_mini_tree.specs.Tree as tree
use Rattle.tdl_mini_grammar.proofs.Terminals.{spell_layers, spell_step, spell_operand, spell_braces}
use Rattle.tdl_mini_grammar.proofs.Running.{state, Runs, runs_mark, runs_then, runs_none, runs_past}
use Rattle.tdl_mini_grammar.proofs.Settling.{Pends, BeginsFresh, fresh-append, pends_runs}
use Rattle.tdl_mini_grammar.proofs.Pieces.{runs_numeral, star_runs, slash_runs}
use Rattle.tdl_mini_grammar.proofs.Delimiters.{layers_level, closed_level, role_kind, base, entry, between, frame, open_runs, close_runs, bracket_runs}
use Rattle.tdl_mini_grammar.proofs.Delimiters.{round_runs, hits_runs, steps_runs, steps_ended, from_ended}

-- ---- the stage after an operand or a step
abbrev pub operand_stage : Role → Operand → Stage
operand_stage role (scaled bs n) = stepping (step_by_role role (scaled bs n))
operand_stage role (nested bs b ls) = after_bracket role bs b ls

abbrev pub step_stage : Kind → MiniStep → Stage
step_stage kind (begins (value v)) = value_stage kind v
step_stage kind (begins rest) = stepping (begins rest)
step_stage kind (begins (bracketed o)) = operand_stage term o
step_stage kind (fast s o) = operand_stage (faster s) o
step_stage kind (slow s o) = operand_stage (slower s) o
step_stage kind (euclid s k n) = stepping (euclid s k n)
step_stage kind (euclid_from s k n r) = stepping (euclid_from s k n r)

pending_operand : (role : Role) (o : Operand) → pending (operand_stage role o) ≡ Some (step_by_role role o)
pending_operand role (scaled bs n) = refl
pending_operand role (nested bs Square ls) = refl
pending_operand role (nested bs Angle ls) = refl
pending_operand role (nested bs Brace ls) = refl

pending_number : (b : Bool) (n : Number) → pending (if b then numbered n else stepping (begins (value (tree.number n)))) ≡ Some (begins (value (tree.number n)))
pending_number true n = refl
pending_number false n = refl

pub pending_step : (kind : Kind) (step : MiniStep) → pending (step_stage kind step) ≡ Some step
pending_step kind (begins (value (tree.sound text None))) = refl
pending_step kind (begins (value (tree.sound text (Some n)))) = refl
pending_step kind (begins (value (tree.name text))) = refl
pending_step kind (begins (value (tree.note n))) = refl
pending_step kind (begins (value (tree.truth b))) = refl
pending_step kind (begins (value (tree.number n))) = pending_number (is_end kind n) n
pending_step kind (begins rest) = refl
pending_step kind (begins (bracketed o)) = pending_operand term o
pending_step kind (fast s o) = pending_operand (faster s) o
pending_step kind (slow s o) = pending_operand (slower s) o
pending_step kind (euclid s k n) = refl
pending_step kind (euclid_from s k n r) = refl

-- ---- a step begins with a token that finishes what is before
fresh_braces : (kind : Kind) (bs : Braces) → HasBrace bs → BeginsFresh (spell_braces kind bs)
fresh_braces kind no_brace h = absurd h
fresh_braces kind (brace no_brace ls) h = tt
fresh_braces kind (brace (brace bs first) ls) h = fresh-append (spell_braces kind (brace bs first)) _ (fresh_braces kind (brace bs first) tt)

fresh_operand : (kind : Kind) (o : Operand) → IsBracketed o → BeginsFresh (spell_operand kind o)
fresh_operand kind (scaled bs n) h = fresh-append (spell_braces kind bs) _ (fresh_braces kind bs h)
fresh_operand kind (nested no_brace b ls) h = tt
fresh_operand kind (nested (brace bs first) b ls) h = fresh-append (spell_braces kind (brace bs first)) _ (fresh_braces kind (brace bs first) tt)

pub fresh_step : (kind : Kind) (depth : ℕ) (step : MiniStep) → FormedStep kind depth step → BeginsFresh (spell_step kind step)
fresh_step kind depth (begins (value (tree.sound text None))) h = tt
fresh_step kind depth (begins (value (tree.sound text (Some n)))) h = tt
fresh_step kind depth (begins (value (tree.name text))) h = tt
fresh_step kind depth (begins (value (tree.note n))) h = tt
fresh_step kind depth (begins (value (tree.truth b))) h = tt
fresh_step kind depth (begins (value (tree.number n))) h = tt
fresh_step kind depth (begins rest) h = tt
fresh_step kind depth (begins (bracketed o)) h = fresh_operand kind o h.0
fresh_step kind depth (fast s o) h = fresh-append (spell_step kind s) _ (fresh_step kind depth s h.0)
fresh_step kind depth (slow s o) h = fresh-append (spell_step kind s) _ (fresh_step kind depth s h.0)
fresh_step kind depth (euclid s k n) h = fresh-append (spell_step kind s) _ (fresh_step kind depth s h.0)
fresh_step kind depth (euclid_from s k n r) h = fresh-append (spell_step kind s) _ (fresh_step kind depth s h.0)

-- ---- what is claimed of layers, and of an operand
abbrev pub LayersRead : Bool → List Frame → Kind → Layers → ℕ → Type 0
LayersRead tested frames kind ls from = Pends tested (state frames (first_level kind) ready from) (spell_layers kind ls)
    (tests_from from (layers_pieces kind ls)) frames (layers_level kind ls) (after from (layers_pieces kind ls))

-- where braces and a step end
abbrev pub after_braces : Role → Braces → Level → ℕ → ℕ
after_braces role bs l from = after from (braces_pieces (role_kind role l.kind) bs)

abbrev pub after_step : MiniStep → Level → ℕ → ℕ
after_step step l from = after from (step_pieces l.kind step)

abbrev pub BracesRead : Bool → Role → Braces → List Frame → Level → ℕ → Type 0
BracesRead tested role bs frames l from = Runs tested (state frames l (entry role) from) (spell_braces (role_kind role l.kind) bs)
    (tests_from from (braces_pieces (role_kind role l.kind) bs)) (between role bs frames l from (after_braces role bs l from))

abbrev pub OperandRead : Bool → Role → Operand → List Frame → Level → ℕ → Type 0
OperandRead tested role o frames l from = Runs tested (state frames l (entry role) from) (spell_operand (role_kind role l.kind) o)
    (tests_from from (operand_pieces (role_kind role l.kind) o))
    (state frames (base role l from) (operand_stage role o) (after from (operand_pieces (role_kind role l.kind) o)))

abbrev pub StepRead : Bool → MiniStep → List Frame → Level → ℕ → Type 0
StepRead tested step frames l from = Runs tested (state frames l ready from) (spell_step l.kind step) (tests_from from (step_pieces l.kind step))
    (state frames (begun_at l from) (step_stage l.kind step) (after_step step l from))

-- a term is a bracket, a factor may be a number
abbrev pub Fits : Role → Operand → Type 0
Fits term o = IsBracketed o
Fits (faster step) o = Unit {0}
Fits (slower step) o = Unit {0}

-- ---- braces and operands
pub no_brace_read : (tested : Bool) (role : Role) (frames : List Frame) (l : Level) (from : ℕ) → BracesRead tested role no_brace frames l from
no_brace_read tested role frames l from = runs_none tested (state frames l (entry role) from)

pub brace_read :
    (tested : Bool) (role : Role) (bs : Braces) (ls : Layers) (frames : List Frame) (l : Level) (from : ℕ) → length frames < 16 → IsFilled ls →
    Formed (kind_after (role_kind role l.kind) bs) (suc (length frames)) ls →
    BracesRead tested role bs frames l from →
    LayersRead tested (frame role bs Brace l from ∷ frames) (kind_after (role_kind role l.kind) bs) ls (suc (after_braces role bs l from)) →
    BracesRead tested role (brace bs ls) frames l from
brace_read tested role bs ls frames l from few filled formed before within =
    let kind = kind_after (role_kind role l.kind) bs in
    let mid = after_braces role bs l from in
    let inner = after (suc mid) (layers_pieces kind ls) in
    let close : (start : ℕ) → Runs tested (state (frame role bs Brace l from ∷ frames) (layers_level kind ls start) ready inner)
    (sign (mark.Close Brace) ∷ sign mark.Percent ∷ []) [] (between role (brace bs ls) frames l from (suc (suc inner))) =
    λ start. runs_then (close_runs tested role bs Brace frames (base role l from) (layers_level kind ls start) ls inner
    (closed_level kind (suc (length frames)) ls filled formed start)) (runs_mark mark.Percent refl) in
    runs_then before
    (runs_then (open_runs tested role bs Brace frames l from mid few refl)
    (pends_runs within (sign (mark.Close Brace) ∷ sign mark.Percent ∷ []) tt [] _ close))

pub nested_read :
    (tested : Bool) (role : Role) (bs : Braces) (b : Bracket) (ls : Layers) (frames : List Frame) (l : Level) (from : ℕ) → length frames < 16 →
    IsFilled ls → Formed (kind_after (role_kind role l.kind) bs) (suc (length frames)) ls →
    BracesRead tested role bs frames l from →
    LayersRead tested (frame role bs b l from ∷ frames) (kind_after (role_kind role l.kind) bs) ls (suc (after_braces role bs l from)) →
    OperandRead tested role (nested bs b ls) frames l from
nested_read tested role bs b ls frames l from few filled formed before within =
    let kind = kind_after (role_kind role l.kind) bs in
    runs_then before
    (runs_then (open_runs tested role bs b frames l from (after_braces role bs l from) few refl)
    (bracket_runs role bs b l from (layers_level kind ls) ls within (closed_level kind (suc (length frames)) ls filled formed)))

-- a number that is an operand, or stands after braces
number_read :
    (tested : Bool) (role : Role) (bs : Braces) (n : Number) (frames : List Frame) (l : Level) (from at : ℕ) →
    Fits role (scaled bs n) →
    Runs tested (between role bs frames l from at) (numeral n ∷ []) (test_at at (factor_rule n) ∷ [])
    (state frames (base role l from) (operand_stage role (scaled bs n)) (suc at))
number_read tested term no_brace n frames l from at fits = absurd fits
number_read tested (faster step) no_brace n frames l from at fits = runs_numeral (λ text. refl)
number_read tested (slower step) no_brace n frames l from at fits = runs_numeral (λ text. refl)
number_read tested role (brace bs ls) n frames l from at fits = runs_numeral (λ text. refl)

pub scaled_read :
    (tested : Bool) (role : Role) (bs : Braces) (n : Number) (frames : List Frame) (l : Level) (from : ℕ) → Fits role (scaled bs n) →
    BracesRead tested role bs frames l from → OperandRead tested role (scaled bs n) frames l from
scaled_read tested role bs n frames l from fits before =
    runs_then before (number_read tested role bs n frames l from (after_braces role bs l from) fits)

-- ---- steps
pub fast_read :
    (tested : Bool) (s : MiniStep) (o : Operand) (frames : List Frame) (l : Level) (from : ℕ) → StepRead tested s frames l from →
    OperandRead tested (faster s) o frames (begun_at l from) (suc (after_step s l from)) → StepRead tested (fast s o) frames l from
fast_read tested s o frames l from before more =
    runs_then before (runs_then (star_runs tested frames (begun_at l from) (step_stage l.kind s) (after_step s l from) s (pending_step l.kind s)) more)

pub slow_read :
    (tested : Bool) (s : MiniStep) (o : Operand) (frames : List Frame) (l : Level) (from : ℕ) → StepRead tested s frames l from →
    OperandRead tested (slower s) o frames (begun_at l from) (suc (after_step s l from)) → StepRead tested (slow s o) frames l from
slow_read tested s o frames l from before more =
    runs_then before (runs_then (slash_runs tested frames (begun_at l from) (step_stage l.kind s) (after_step s l from) s (pending_step l.kind s)) more)

-- the frame of an argument
abbrev pub argument : Hole → Level → ℕ → Frame
argument hole l at = record { level = begun_at l at; hole = hole }

-- where the arguments of a Euclid begin
abbrev pub first_at : MiniStep → Level → ℕ → ℕ
first_at s l at = suc (after_step s l at)

abbrev pub second_at : MiniStep → Layers → Level → ℕ → ℕ
second_at s k l at = suc (after (first_at s l at) (layers_pieces Count k))

abbrev pub third_at : MiniStep → Layers → Layers → Level → ℕ → ℕ
third_at s k n l at = suc (after (second_at s k l at) (layers_pieces Count n))

pub euclid_read :
    (tested : Bool) (s : MiniStep) (k n : Layers) (frames : List Frame) (l : Level) (from : ℕ) → length frames < 16 → IsFilled k →
    Formed Count (suc (length frames)) k → IsFilled n → Formed Count (suc (length frames)) n →
    StepRead tested s frames l from →
    LayersRead tested (argument (hits s) l from ∷ frames) Count k (first_at s l from) →
    LayersRead tested (argument (steps s k) l from ∷ frames) Count n (second_at s k l from) →
    StepRead tested (euclid s k n) frames l from
euclid_read tested s k n frames l from few some_k formed_k some_n formed_n before first second =
    let round = round_runs tested frames (begun_at l from) (step_stage l.kind s) (after_step s l from) s (pending_step l.kind s) few in
    let hits = hits_runs (begun_at l from) (layers_level Count k) s k first (closed_level Count (suc (length frames)) k some_k formed_k) in
    let last = steps_ended (begun_at l from) (layers_level Count n) s k n second (closed_level Count (suc (length frames)) n some_n formed_n) in
    runs_then before
    (runs_then round
    (runs_past (spell_layers Count k) (sign mark.Comma) (tests_from (first_at s l from) (layers_pieces Count k)) hits last))

pub euclid_from_read :
    (tested : Bool) (s : MiniStep) (k n r : Layers) (frames : List Frame) (l : Level) (from : ℕ) → length frames < 16 → IsFilled k →
    Formed Count (suc (length frames)) k → IsFilled n → Formed Count (suc (length frames)) n → IsFilled r →
    Formed Count (suc (length frames)) r → StepRead tested s frames l from →
    LayersRead tested (argument (hits s) l from ∷ frames) Count k (first_at s l from) →
    LayersRead tested (argument (steps s k) l from ∷ frames) Count n (second_at s k l from) →
    LayersRead tested (argument (Hole.from s k n) l from ∷ frames) Count r (third_at s k n l from) →
    StepRead tested (euclid_from s k n r) frames l from
euclid_from_read tested s k n r frames l from few some_k formed_k some_n formed_n some_r formed_r before first second third =
    let round = round_runs tested frames (begun_at l from) (step_stage l.kind s) (after_step s l from) s (pending_step l.kind s) few in
    let hits = hits_runs (begun_at l from) (layers_level Count k) s k first (closed_level Count (suc (length frames)) k some_k formed_k) in
    let middle = steps_runs (begun_at l from) (layers_level Count n) s k n second (closed_level Count (suc (length frames)) n some_n formed_n) in
    let last = from_ended (begun_at l from) (layers_level Count r) s k n r third (closed_level Count (suc (length frames)) r some_r formed_r) in
    runs_then before
    (runs_then round
    (runs_past (spell_layers Count k) (sign mark.Comma) (tests_from (first_at s l from) (layers_pieces Count k)) hits
    (runs_past (spell_layers Count n) (sign mark.Comma) (tests_from (second_at s k l from) (layers_pieces Count n)) middle last)))
