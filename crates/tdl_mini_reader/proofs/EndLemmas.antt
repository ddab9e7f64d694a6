-- What the ends of brackets say of the machine, over the layers that they add.
use Rattle.std.proofs.Common.{◌≡◌, ℕ, suc, Bool, true, false, Ok, List, [], ◌∷◌, ◌++◌, refl, ap, sym, ◌∙◌, subst, append_assoc, if◌then◌else◌}
use Rattle.std.proofs.lemmas.List.Sums.{fold-append}
use Rattle.tdl_control.specs.declared.faults.Faulted.{Faulted}
use Rattle.tdl_mini_tree.specs.declared.faults.MiniKind.{MiniKind}
use Rattle.tdl_mini_tree.specs.declared.leaves.Bracket.{Bracket}
use Rattle.tdl_mini_tree.specs.declared.tree.NestId.{NestId}
use Rattle.tdl_mini_reader.specs.declared.nests.Nests.{Nests}
use Rattle.tdl_mini_reader.specs.declared.stages.Stage.{Stage}
use Rattle.tdl_mini_reader.specs.declared.stages.Stage.TheVariants as stage
use Rattle.std.specs.declared.vec.Vec.{Vec}
use Rattle.std.specs.declared.alloc.Global.{Global}
use Rattle.tdl_mini_reader.specs.declared.stages.Role.{Role}
use Rattle.tdl_mini_reader.specs.declared.stages.Hole.{Hole}
use Rattle.tdl_mini_reader.specs.declared.stages.Hole.TheVariants as hole
use Rattle.tdl_mini_reader.specs.declared.levels.Frame.{Frame}
use Rattle.tdl_mini_reader.specs.declared.reader.MiniTokenReader.{MiniTokenReader}
use Rattle.tdl_mini_machine.specs.Tokens.{Tok}
use Rattle.tdl_mini_tree.specs.Tree as tree
use Rattle.tdl_mini_tree.specs.View.{named, braces_of}
use Rattle.tdl_mini_reader.specs.NestsView.{trees_in}
use Rattle.tdl_mini_machine.specs.Machine.States as machine
use Rattle.tdl_mini_machine.specs.Machine.States.{State, Taken, and_then, closed_layers, refused, is_same_bracket}
use Rattle.tdl_mini_machine.specs.Machine.Brackets.{closed_hole, closed_to, closed, after_bracket}
use Rattle.tdl_mini_reader.specs.ReaderView.{state_of, level_of, frame_of, frames_of, hole_of, role_of, stage_of, Refusal, StaysAt}
use Rattle.tdl_mini_reader.specs.inside.GrowthView.{IsTakenOn, IsRefusedOn, HasNested}
use Rattle.tdl_mini_reader.proofs.ReaderLemmas.{refusal_then, then_refusal}

-- ---- further layers
abbrev pub done : State → Taken
done s = Ok s

-- the frame that is last in the list is the innermost
pub frames_push : (trees : List tree.Layers) (frames : List Frame) (f : Frame) → frames_of trees (frames ++ f ∷ []) ≡ frame_of trees f ∷ frames_of trees frames
frames_push trees frames f = fold-append (λ inner g. frame_of trees g ∷ inner) [] frames (f ∷ [])

pub frames_popped : (trees : List tree.Layers) (all frames : List Frame) (f : Frame) → all ≡ frames ++ f ∷ []
    → frames_of trees all ≡ frame_of trees f ∷ frames_of trees frames
frames_popped trees all frames f e = ap (frames_of trees) e ∙ frames_push trees frames f

-- the layers that were read in the bracket, over what comes later too
pub nested_joined : (old new : MiniTokenReader) (nest : NestId) (more : List tree.Layers) → HasNested old new nest
    → trees_in new.nests ++ more ≡ trees_in old.nests ++ ((closed_layers (level_of (trees_in old.nests) old.level) ∷ []) ++ more)
nested_joined old new nest more h = ap (λ ts. ts ++ more) h.trees
    ∙ append_assoc (trees_in old.nests) (closed_layers (level_of (trees_in old.nests) old.level) ∷ []) more

pub nested_name : (old new : MiniTokenReader) (nest : NestId) (more : List tree.Layers) → StaysAt (trees_in old.nests) old stage.Ready → HasNested old new nest
    → closed_layers (level_of (trees_in new.nests ++ more) old.level) ≡ named (trees_in new.nests ++ more) nest
nested_name old new nest more stays h =
    ap (λ ts. closed_layers (level_of ts old.level)) (nested_joined old new nest more h)
    ∙ ap (λ s. closed_layers s.level) (stays ((closed_layers (level_of (trees_in old.nests) old.level) ∷ []) ++ more))
    ∙ sym (h.name more)

-- ---- the state after a token
pub same_past : (a b : List machine.Frame) (l m : machine.Level) (p q : machine.Stage) (i j : ℕ) → a ≡ b → l ≡ m → p ≡ q → i ≡ j
    → done (record { frames = a; level = l; stage = p; read = suc i }) ≡ done (record { frames = b; level = m; stage = q; read = suc j })
same_past a b l m p q i j ab lm pq ij = rw (ab, lm, pq, ij) refl

-- ---- the end of a bracket
popped_hole : (trees : List tree.Layers) (r : MiniTokenReader) (t : Tok) (b : Bracket) (popped : List Frame) (f : Frame) → r.frames.items ≡ popped ++ f ∷ []
    → closed (state_of trees r stage.Ready) t b (frames_of trees r.frames.items) ≡ closed_hole (state_of trees r stage.Ready) t b (level_of trees f.level)
    (frames_of trees popped) (hole_of trees f.hole)
popped_hole trees r t b popped f e = ap (closed (state_of trees r stage.Ready) t b) (frames_popped trees r.frames.items popped f e)

other_hole : (trees : List tree.Layers) (s : State) (t : Tok) (b : Bracket) (l : machine.Level) (fs : List machine.Frame) (h : Hole)
    → ((x : Role) (y : Vec NestId Global) (z : Bracket) → h ≡ hole.Operand x y z → ⊥) → closed_hole s t b l fs (hole_of trees h) ≡ refused s t
other_hole trees s t b l fs (hole.Operand role braces opened) not = absurd (not role braces opened refl)
other_hole trees s t b l fs (hole.Hits step) not = refl
other_hole trees s t b l fs (hole.Steps step hits) not = refl
other_hole trees s t b l fs (hole.From step hits steps) not = refl

-- nothing is closed in the arguments of a Euclid
pub closed_other : (trees : List tree.Layers) (r : MiniTokenReader) (t : Tok) (b : Bracket) (popped : List Frame) (f : Frame)
    → r.frames.items ≡ popped ++ f ∷ []
    → ((x : Role) (y : Vec NestId Global) (z : Bracket) → f.hole ≡ hole.Operand x y z → ⊥)
    → closed (state_of trees r stage.Ready) t b (frames_of trees r.frames.items) ≡ refused (state_of trees r stage.Ready) t
closed_other trees r t b popped f e not = popped_hole trees r t b popped f e
    ∙ other_hole trees (state_of trees r stage.Ready) t b (level_of trees f.level) (frames_of trees popped) f.hole not

operand_hole : (trees : List tree.Layers) (s : State) (t : Tok) (b : Bracket) (l : machine.Level) (fs : List machine.Frame) (h : Hole) (role : Role)
    (braces : Vec NestId Global) (opened : Bracket) (is_same : Bool) → h ≡ hole.Operand role braces opened → is_same_bracket b opened ≡ is_same
    → closed_hole s t b l fs (hole_of trees h) ≡
    (if is_same then Ok (closed_to s l fs (after_bracket (role_of trees role) (braces_of trees braces.items) b (closed_layers s.level))) else refused s t)
operand_hole trees s t b l fs h role braces opened is_same e same = rw (e, same) refl

-- another bracket was opened
pub closed_unlike : (trees : List tree.Layers) (r : MiniTokenReader) (t : Tok) (b : Bracket) (popped : List Frame) (f : Frame) (role : Role)
    (braces : Vec NestId Global) (opened : Bracket) → r.frames.items ≡ popped ++ f ∷ [] → f.hole ≡ hole.Operand role braces opened
    → is_same_bracket b opened ≡ false → closed (state_of trees r stage.Ready) t b (frames_of trees r.frames.items) ≡ refused
    (state_of trees r stage.Ready) t
closed_unlike trees r t b popped f role braces opened e is unlike = popped_hole trees r t b popped f e
    ∙ operand_hole trees (state_of trees r stage.Ready) t b (level_of trees f.level) (frames_of trees popped) f.hole role braces opened false is unlike

-- a popped frame, where the layers of the level in it are kept
pub record IsPopped (old new : MiniTokenReader) (popped : List Frame) (f : Frame) (nest : NestId) : Type 0 where
  pub items : old.frames.items ≡ popped ++ f ∷ []
  pub stays : StaysAt (trees_in old.nests) old stage.Ready
  pub nested : HasNested old new nest
  pub level : new.level ≡ f.level
  pub frames : new.frames.items ≡ popped
  pub read : new.read ≡ old.read

-- back in the bracket round this one
pub closes : (old new : MiniTokenReader) (t : Tok) (b : Bracket) (popped : List Frame) (f : Frame) (role : Role) (braces : Vec NestId Global) (opened : Bracket)
    (nest : NestId) (p : Stage) → IsPopped old new popped f nest → f.hole ≡ hole.Operand role braces opened → is_same_bracket b opened ≡ true
    → ((trees : List tree.Layers) → stage_of trees p ≡ after_bracket (role_of trees role) (braces_of trees braces.items) b (named trees nest))
    → IsTakenOn (λ trees. closed (state_of trees old stage.Ready) t b (frames_of trees old.frames.items)) new p
closes old new t b popped f role braces opened nest p c is same placed more =
    let trees = trees_in new.nests ++ more in
    let at = ap (after_bracket (role_of trees role) (braces_of trees braces.items) b) (nested_name old new nest more c.stays c.nested) ∙ sym (placed trees) in
    popped_hole trees old t b popped f c.items
    ∙ operand_hole trees (state_of trees old stage.Ready) t b (level_of trees f.level) (frames_of trees popped) f.hole role braces opened true is same
    ∙ same_past (frames_of trees popped) (frames_of trees new.frames.items) (level_of trees f.level) (level_of trees new.level) _
    (stage_of trees p) old.read new.read (ap (frames_of trees) (sym c.frames)) (ap (level_of trees) (sym c.level)) at (sym c.read)

-- ---- before the end of a bracket its last element is settled
pub refused_then : (before : List tree.Layers → Taken) (next : State → Taken) (trees : List tree.Layers) (fault : Faulted MiniKind)
    → ((ts : List tree.Layers) → Refusal (before ts) fault) → IsRefusedOn (λ ts. and_then (before ts) next) trees fault
refused_then before next trees fault h more = refusal_then (before (trees ++ more)) next fault (h (trees ++ more))

pub then_refused : (before : List tree.Layers → Taken) (next : State → Taken) (r : MiniTokenReader) (old : Nests) (fault : Faulted MiniKind)
    → ((ts : List tree.Layers) → before ts ≡ Ok (state_of ts r stage.Ready)) → r.nests ≡ old
    → IsRefusedOn (λ ts. next (state_of ts r stage.Ready)) (trees_in r.nests) fault → IsRefusedOn (λ ts. and_then (before ts) next) (trees_in old) fault
then_refused before next r old fault ok same h more =
    let trees = trees_in old ++ more in
    then_refusal (before trees) (state_of trees r stage.Ready) next fault (ok trees)
    (subst (λ n. Refusal (next (state_of (trees_in n ++ more) r stage.Ready)) fault) same (h more))
