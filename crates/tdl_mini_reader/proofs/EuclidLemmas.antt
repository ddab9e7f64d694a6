-- What the end of a Euclid's arguments says of the machine, over the layers of the last of them.
use Rattle.std.proofs.Common.{◌≡◌, ℕ, Bool, true, false, Result, Ok, Err, List, [], ◌∷◌, ◌++◌, append-nil, refl, ap, ap₂, sym, ◌∙◌, subst, OnOk, IfErr}
use Rattle.tdl_control.specs.declared.faults.Faulted.{Faulted}
use Rattle.tdl_control.specs.declared.faults.Faulted.TheVariants.{NoMemory, At}
use Rattle.tdl_mini_tree.specs.declared.faults.MiniKind.{MiniKind}
use Rattle.tdl_mini_tree.specs.declared.faults.MiniKind.TheVariants.{BadEuclid}
use Rattle.tdl_mini_tree.specs.declared.tree.NestId.{NestId}
use Rattle.tdl_mini_tree.specs.declared.tree.MiniStep.{MiniStep}
use Rattle.tdl_mini_reader.specs.declared.stages.Stage.{Stage}
use Rattle.tdl_mini_reader.specs.declared.stages.Stage.TheVariants as stage
use Rattle.tdl_mini_reader.specs.declared.stages.Hole.{Hole}
use Rattle.tdl_mini_reader.specs.declared.stages.Hole.TheVariants as hole
use Rattle.tdl_mini_reader.specs.declared.levels.Frame.{Frame}
use Rattle.tdl_mini_reader.specs.declared.reader.MiniTokenReader.{MiniTokenReader}
use Rattle.tdl_mini_machine.specs.Tokens.{Tok}
use Rattle.tdl_mini_machine.specs.Rules.{on_token}
use Rattle.tdl_mini_tree.specs.Tree as tree
use Rattle.tdl_mini_tree.specs.Values.{values_of, is_accepted, is_accepted_from}
use Rattle.tdl_mini_tree.specs.View.{named}
use Rattle.tdl_mini_reader.specs.NestsView.{trees_in}
use Rattle.tdl_mini_machine.specs.Machine.States as machine
use Rattle.tdl_mini_machine.specs.Machine.States.{State, Taken, checked, closed_layers, refused, stepping}
use Rattle.tdl_mini_machine.specs.Machine.Brackets.{closed_to, euclid_closed, euclid_hole}
use Rattle.tdl_mini_reader.specs.ReaderView.{state_of, level_of, frames_of, hole_of, stage_of, Refusal, StaysAt}
use Rattle.tdl_mini_reader.specs.inside.Calls.{FailsAt}
use Rattle.tdl_mini_reader.specs.inside.GrowthView.{IsTakenOn, IsRefusedOn, HasNested}
use Rattle.tdl_mini_reader.proofs.ReaderLemmas.{refusal_by}
use Rattle.tdl_mini_reader.proofs.EndLemmas.{frames_popped, nested_joined, nested_name, same_past, IsPopped}

abbrev pub ends : machine.Hole → Bool
ends (machine.operand role bs b) = false
ends (machine.hits step) = false
ends (machine.steps step k) = true
ends (machine.from step k n) = true

-- the test of the arguments, of which the last is that which ends
abbrev pub holds : machine.Hole → tree.Layers → Bool
holds (machine.operand role bs b) ls = true
holds (machine.hits step) ls = true
holds (machine.steps step k) ls = is_accepted (values_of k) (values_of ls)
holds (machine.from step k n) ls = is_accepted_from (values_of k) (values_of n) (values_of ls)

-- the step with them
abbrev pub built : machine.Hole → tree.Layers → tree.MiniStep
built (machine.operand role bs b) ls = tree.begins tree.rest
built (machine.hits step) ls = step
built (machine.steps step k) ls = tree.euclid step k ls
built (machine.from step k n) ls = tree.euclid_from step k n ls

abbrev pub first_hole : List machine.Frame → machine.Hole
first_hole [] = machine.hits (tree.begins tree.rest)
first_hole (f ∷ frames) = f.hole

-- what the innermost frame names stays
hole_stays : (old : MiniTokenReader) (trees more : List tree.Layers) (popped : List Frame) (f : Frame) → old.frames.items ≡ popped ++ f ∷ []
    → StaysAt trees old stage.Ready → hole_of (trees ++ more) f.hole ≡ hole_of trees f.hole
hole_stays old trees more popped f e stays =
    sym (ap first_hole (frames_popped (trees ++ more) old.frames.items popped f e))
    ∙ ap (λ s. first_hole s.frames) (stays more)
    ∙ ap first_hole (frames_popped trees old.frames.items popped f e)

ends_hole : (s : State) (t : Tok) (l : machine.Level) (fs : List machine.Frame) (h : machine.Hole) → ends h ≡ true
    → euclid_hole true s t l fs h ≡ checked true (on_token BadEuclid s.read (holds h (closed_layers s.level)))
    (Ok (closed_to s l fs (stepping (built h (closed_layers s.level)))))
ends_hole s t l fs (machine.operand role bs b) h = cc
ends_hole s t l fs (machine.hits step) h = cc
ends_hole s t l fs (machine.steps step k) h = refl
ends_hole s t l fs (machine.from step k n) h = refl

unlike_hole : (s : State) (t : Tok) (l : machine.Level) (fs : List machine.Frame) (h : machine.Hole) → ends h ≡ false
    → euclid_hole true s t l fs h ≡ refused s t
unlike_hole s t l fs (machine.operand role bs b) h = refl
unlike_hole s t l fs (machine.hits step) h = refl
unlike_hole s t l fs (machine.steps step k) h = cc
unlike_hole s t l fs (machine.from step k n) h = cc

not_ends : (trees : List tree.Layers) (h : Hole) → ((x : MiniStep) (k : NestId) → h ≡ hole.Steps x k → ⊥)
    → ((x : MiniStep) (k n : NestId) → h ≡ hole.From x k n → ⊥) → ends (hole_of trees h) ≡ false
not_ends trees (hole.Operand role braces opened) a b = refl
not_ends trees (hole.Hits step) a b = refl
not_ends trees (hole.Steps step hits) a b = absurd (a step hits refl)
not_ends trees (hole.From step hits steps) a b = absurd (b step hits steps refl)

popped_euclid : (trees : List tree.Layers) (r : MiniTokenReader) (t : Tok) (popped : List Frame) (f : Frame) → r.frames.items ≡ popped ++ f ∷ []
    → euclid_closed true (state_of trees r stage.Ready) t (frames_of trees r.frames.items) ≡ euclid_hole true (state_of trees r stage.Ready) t
    (level_of trees f.level) (frames_of trees popped) (hole_of trees f.hole)
popped_euclid trees r t popped f e = ap (euclid_closed true (state_of trees r stage.Ready) t) (frames_popped trees r.frames.items popped f e)

-- no arguments end there
pub euclid_other : (trees : List tree.Layers) (r : MiniTokenReader) (t : Tok) (popped : List Frame) (f : Frame) → r.frames.items ≡ popped ++ f ∷ []
    → ((x : MiniStep) (k : NestId) → f.hole ≡ hole.Steps x k → ⊥) → ((x : MiniStep) (k n : NestId) → f.hole ≡ hole.From x k n → ⊥)
    → euclid_closed true (state_of trees r stage.Ready) t (frames_of trees r.frames.items) ≡ refused (state_of trees r stage.Ready) t
euclid_other trees r t popped f e a b = popped_euclid trees r t popped f e
    ∙ unlike_hole (state_of trees r stage.Ready) t (level_of trees f.level) (frames_of trees popped) (hole_of trees f.hole) (not_ends trees f.hole a b)

-- what the machine says there, over any trees
euclid_at : (trees : List tree.Layers) (r : MiniTokenReader) (t : Tok) (popped : List Frame) (f : Frame) (accepted : Bool) → r.frames.items ≡ popped ++ f ∷ []
    → ends (hole_of trees f.hole) ≡ true → holds (hole_of trees f.hole) (closed_layers (level_of trees r.level)) ≡ accepted
    → euclid_closed true (state_of trees r stage.Ready) t (frames_of trees r.frames.items) ≡ checked true (on_token BadEuclid r.read accepted)
    (Ok (closed_to (state_of trees r stage.Ready) (level_of trees f.level) (frames_of trees popped)
    (stepping (built (hole_of trees f.hole) (closed_layers (level_of trees r.level))))))
euclid_at trees r t popped f accepted e is h =
    let next : Taken =
    Ok (closed_to (state_of trees r stage.Ready) (level_of trees f.level) (frames_of trees popped)
    (stepping (built (hole_of trees f.hole) (closed_layers (level_of trees r.level))))) in
    popped_euclid trees r t popped f e
    ∙ ends_hole (state_of trees r stage.Ready) t (level_of trees f.level) (frames_of trees popped) (hole_of trees f.hole) is
    ∙ ap (λ b. checked true (on_token BadEuclid r.read b) next) h

-- the test of the arguments is the same over further layers
holds_on : (old new : MiniTokenReader) (popped : List Frame) (f : Frame) (nest : NestId) (more : List tree.Layers) → old.frames.items ≡ popped ++ f ∷ []
    → StaysAt (trees_in old.nests) old stage.Ready → HasNested old new nest
    → holds (hole_of (trees_in old.nests ++ more) f.hole) (closed_layers (level_of (trees_in old.nests ++ more) old.level)) ≡ holds
    (hole_of (trees_in new.nests) f.hole) (named (trees_in new.nests) nest)
holds_on old new popped f nest more e stays nested =
    let trees = trees_in old.nests in
    let there = closed_layers (level_of trees old.level) in
    let before : hole_of (trees_in new.nests) f.hole ≡ hole_of trees f.hole = ap (λ ts. hole_of ts f.hole) nested.trees
    ∙ hole_stays old trees (there ∷ []) popped f e stays in
    let name : named (trees_in new.nests) nest ≡ there = ap (λ ts. named ts nest) (sym (append-nil (trees_in new.nests))) ∙ nested.name [] in
    ap₂ holds (hole_stays old trees more popped f e stays ∙ sym before) (ap (λ s. closed_layers s.level) (stays more) ∙ sym name)

refused_test : (next : Taken) (at : ℕ) (accepted : Bool) (fault : Faulted MiniKind) → FailsAt BadEuclid at accepted fault
    → Refusal (checked true (on_token BadEuclid at accepted) next) fault
refused_test next at accepted NoMemory h = tt
refused_test next at accepted (At kind stage) h = rw (h.0, h.1, h.2) refl

euclid_fails : (old new : MiniTokenReader) (t : Tok) (popped : List Frame) (f : Frame) (nest : NestId) (fault : Faulted MiniKind)
    → old.frames.items ≡ popped ++ f ∷ []
    → ((trees : List tree.Layers) → ends (hole_of trees f.hole) ≡ true)
    → StaysAt (trees_in old.nests) old stage.Ready
    → HasNested old new nest
    → FailsAt BadEuclid old.read (holds (hole_of (trees_in new.nests) f.hole) (named (trees_in new.nests) nest)) fault
    → IsRefusedOn (λ trees. euclid_closed true (state_of trees old stage.Ready) t (frames_of trees old.frames.items)) (trees_in old.nests) fault
euclid_fails old new t popped f nest fault e is stays nested h more =
    let trees = trees_in old.nests ++ more in
    refusal_by _ _ fault (euclid_at trees old t popped f _ e (is trees) (holds_on old new popped f nest more e stays nested))
    (refused_test _ old.read _ fault h)

euclid_ends : (old new : MiniTokenReader) (t : Tok) (popped : List Frame) (f : Frame) (nest : NestId) (p : Stage)
    → old.frames.items ≡ popped ++ f ∷ []
    → ((trees : List tree.Layers) → ends (hole_of trees f.hole) ≡ true)
    → StaysAt (trees_in old.nests) old stage.Ready
    → HasNested old new nest
    → new.level ≡ f.level
    → new.frames.items ≡ popped
    → new.read ≡ old.read
    → holds (hole_of (trees_in new.nests) f.hole) (named (trees_in new.nests) nest) ≡ true
    → ((trees : List tree.Layers) → stage_of trees p ≡ stepping (built (hole_of trees f.hole) (named trees nest)))
    → IsTakenOn (λ trees. euclid_closed true (state_of trees old stage.Ready) t (frames_of trees old.frames.items)) new p
euclid_ends old new t popped f nest p e is stays nested level frames read accepted placed more =
    let trees = trees_in new.nests ++ more in
    let there = closed_layers (level_of (trees_in old.nests) old.level) in
    let joined = nested_joined old new nest more nested in
    let test : holds (hole_of trees f.hole) (closed_layers (level_of trees old.level)) ≡ true =
    subst (λ ts. holds (hole_of ts f.hole) (closed_layers (level_of ts old.level)) ≡ true) (sym joined)
    (holds_on old new popped f nest ((there ∷ []) ++ more) e stays nested ∙ accepted) in
    let at = ap (λ ls. stepping (built (hole_of trees f.hole) ls)) (nested_name old new nest more stays nested) ∙ sym (placed trees) in
    euclid_at trees old t popped f true e (is trees) test
    ∙ same_past (frames_of trees popped) (frames_of trees new.frames.items) (level_of trees f.level) (level_of trees new.level) _
    (stage_of trees p) old.read new.read (ap (frames_of trees) (sym frames)) (ap (level_of trees) (sym level)) at (sym read)

pub euclid_ok : (old new : MiniTokenReader) (t : Tok) (popped : List Frame) (f : Frame) (h : Hole) (nest : NestId) (next : Stage)
    (result : Result (Unit {0}) (Faulted MiniKind))
    → IsPopped old new popped f nest → f.hole ≡ h → ((trees : List tree.Layers) → ends (hole_of trees h) ≡ true)
    → OnOk result (holds (hole_of (trees_in new.nests) h) (named (trees_in new.nests) nest) ≡ true)
    → OnOk result ((trees : List tree.Layers) → stage_of trees next ≡ stepping (built (hole_of trees h) (named trees nest)))
    → OnOk result (IsTakenOn (λ trees. euclid_closed true (state_of trees old stage.Ready) t (frames_of trees old.frames.items)) new next)
euclid_ok old new t popped f h nest next (Ok _) c e is accepted placed =
    euclid_ends old new t popped f nest next c.items (λ trees. ap (λ x. ends (hole_of trees x)) e ∙ is trees) c.stays c.nested c.level c.frames c.read
    (ap (λ x. holds (hole_of (trees_in new.nests) x) (named (trees_in new.nests) nest)) e ∙ accepted)
    (λ trees. placed trees ∙ ap (λ x. stepping (built (hole_of trees x) (named trees nest))) (sym e))
euclid_ok old new t popped f h nest next (Err fault) c e is accepted placed = tt

pub euclid_err : (old new : MiniTokenReader) (t : Tok) (popped : List Frame) (f : Frame) (h : Hole) (nest : NestId) (result : Result (Unit {0})
    (Faulted MiniKind))
    → IsPopped old new popped f nest → f.hole ≡ h → ((trees : List tree.Layers) → ends (hole_of trees h) ≡ true)
    → IfErr result (FailsAt BadEuclid new.read (holds (hole_of (trees_in new.nests) h) (named (trees_in new.nests) nest)))
    → IfErr result (IsRefusedOn (λ trees. euclid_closed true (state_of trees old stage.Ready) t (frames_of trees old.frames.items)) (trees_in old.nests))
euclid_err old new t popped f h nest (Ok _) c e is fails = tt
euclid_err old new t popped f h nest (Err fault) c e is fails =
    euclid_fails old new t popped f nest fault c.items (λ trees. ap (λ x. ends (hole_of trees x)) e ∙ is trees) c.stays c.nested (rw (← c.read, e) fails)
