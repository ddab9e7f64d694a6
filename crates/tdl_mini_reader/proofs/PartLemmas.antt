-- What a comma says of the machine, over the layers of the argument that it ends.
use Rattle.std.proofs.Common.{◌≡◌, Bool, true, false, Result, Ok, Err, List, [], ◌∷◌, ◌++◌, refl, ap, ap₂, sym, ◌∙◌, OnOk}
use Rattle.tdl_control.specs.declared.faults.Faulted.{Faulted}
use Rattle.tdl_mini_tree.specs.declared.faults.MiniKind.{MiniKind}
use Rattle.tdl_mini_tree.specs.declared.leaves.Kind.TheVariants.{Count}
use Rattle.tdl_mini_tree.specs.declared.tree.NestId.{NestId}
use Rattle.tdl_mini_tree.specs.declared.tree.MiniStep.{MiniStep}
use Rattle.tdl_mini_reader.specs.declared.stages.Stage.{Stage}
use Rattle.tdl_mini_reader.specs.declared.stages.Stage.TheVariants as stage
use Rattle.tdl_mini_reader.specs.declared.stages.Hole.{Hole}
use Rattle.tdl_mini_reader.specs.declared.stages.Hole.TheVariants as hole
use Rattle.tdl_mini_reader.specs.declared.levels.Frame.{Frame}
use Rattle.tdl_mini_reader.specs.declared.reader.MiniTokenReader.{MiniTokenReader}
use Rattle.tdl_mini_machine.specs.Tokens.{Tok}
use Rattle.tdl_mini_tree.specs.Tree as tree
use Rattle.tdl_mini_tree.specs.View.{named}
use Rattle.tdl_mini_reader.specs.NestsView.{trees_in}
use Rattle.tdl_mini_machine.specs.Machine.States as machine
use Rattle.tdl_mini_machine.specs.Machine.States.{State, Taken, closed_layers, first_level, refused}
use Rattle.tdl_mini_machine.specs.Machine.Brackets.{next_argument, parted, parted_hole}
use Rattle.tdl_mini_reader.specs.ReaderView.{state_of, level_of, frames_of, hole_of, StaysAt}
use Rattle.tdl_mini_reader.specs.inside.Calls.{past_of}
use Rattle.tdl_mini_reader.specs.inside.GrowthView.{IsTakenOn, HasNested}
use Rattle.tdl_mini_reader.proofs.EndLemmas.{frames_popped, nested_name, same_past}

-- what a bracket is in the level round it after the argument
abbrev pub next_hole : machine.Hole → tree.Layers → machine.Hole
next_hole (machine.operand role bs b) ls = machine.operand role bs b
next_hole (machine.hits step) ls = machine.steps step ls
next_hole (machine.steps step k) ls = machine.from step k ls
next_hole (machine.from step k n) ls = machine.from step k n

abbrev pub goes_on : machine.Hole → Bool
goes_on (machine.operand role bs b) = false
goes_on (machine.hits step) = true
goes_on (machine.steps step k) = true
goes_on (machine.from step k n) = false

popped_part : (trees : List tree.Layers) (r : MiniTokenReader) (t : Tok) (popped : List Frame) (f : Frame) → r.frames.items ≡ popped ++ f ∷ []
    → parted (state_of trees r stage.Ready) t (frames_of trees r.frames.items) ≡ parted_hole (state_of trees r stage.Ready) t (level_of trees f.level)
    (frames_of trees popped) (hole_of trees f.hole)
popped_part trees r t popped f e = ap (parted (state_of trees r stage.Ready) t) (frames_popped trees r.frames.items popped f e)

-- a Euclid has three arguments at most
pub parted_other : (trees : List tree.Layers) (r : MiniTokenReader) (t : Tok) (popped : List Frame) (f : Frame) (step : MiniStep) (hits steps : NestId)
    → r.frames.items ≡ popped ++ f ∷ [] → f.hole ≡ hole.From step hits steps
    → parted (state_of trees r stage.Ready) t (frames_of trees r.frames.items) ≡ refused (state_of trees r stage.Ready) t
parted_other trees r t popped f step hits steps e is = popped_part trees r t popped f e
    ∙ ap (λ h. parted_hole (state_of trees r stage.Ready) t (level_of trees f.level) (frames_of trees popped) (hole_of trees h)) is

argument_hole : (s : State) (t : Tok) (l : machine.Level) (fs : List machine.Frame) (h : machine.Hole) → goes_on h ≡ true
    → parted_hole s t l fs h ≡ Ok (next_argument s l fs (next_hole h (closed_layers s.level)))
argument_hole s t l fs (machine.operand role bs b) h = cc
argument_hole s t l fs (machine.hits step) h = refl
argument_hole s t l fs (machine.steps step k) h = refl
argument_hole s t l fs (machine.from step k n) h = cc

-- a popped frame, back with the argument's layers in its hole
pub record IsNext (old middle new : MiniTokenReader) (popped : List Frame) (f : Frame) (nest : NestId) (h after : Hole) : Type 0 where
  pub items : old.frames.items ≡ popped ++ f ∷ []
  pub stays : StaysAt (trees_in old.nests) old stage.Ready
  pub nested : HasNested old middle nest
  pub is : f.hole ≡ h
  pub on : (trees : List tree.Layers) → goes_on (hole_of trees h) ≡ true
  pub next : (trees : List tree.Layers) → hole_of trees after ≡ next_hole (hole_of trees h) (named trees nest)
  pub level : (trees : List tree.Layers) → level_of trees new.level ≡ first_level Count
  pub frames : new.frames.items ≡ popped ++ record { level = f.level; hole = after } ∷ []
  pub nests : new.nests ≡ middle.nests
  pub read : new.read ≡ old.read

abbrev pub framed : machine.Level → machine.Hole → machine.Frame
framed l h = record { level = l; hole = h }

argument_at : (old middle new : MiniTokenReader) (t : Tok) (popped : List Frame) (f : Frame) (nest : NestId) (h after : Hole) (more : List tree.Layers)
    → IsNext old middle new popped f nest h after → parted (state_of (trees_in middle.nests ++ more) old stage.Ready) t
    (frames_of (trees_in middle.nests ++ more) old.frames.items) ≡ Ok (past_of (trees_in middle.nests ++ more) new stage.Ready)
argument_at old middle new t popped f nest h after more c =
    let trees = trees_in middle.nests ++ more in
    let there = closed_layers (level_of trees old.level) in
    let hole_is : next_hole (hole_of trees f.hole) there ≡ hole_of trees after =
    ap₂ next_hole (ap (hole_of trees) c.is) (nested_name old middle nest more c.stays c.nested) ∙ sym (c.next trees) in
    let frames_are = ap (λ x. framed (level_of trees f.level) x ∷ frames_of trees popped) hole_is
    ∙ sym (frames_popped trees new.frames.items popped (record { level = f.level; hole = after }) c.frames) in
    popped_part trees old t popped f c.items
    ∙ argument_hole (state_of trees old stage.Ready) t (level_of trees f.level) (frames_of trees popped) (hole_of trees f.hole)
    (ap (λ x. goes_on (hole_of trees x)) c.is ∙ c.on trees)
    ∙ same_past _ (frames_of trees new.frames.items) (first_level Count) (level_of trees new.level) machine.ready machine.ready old.read new.read frames_are
    (sym (c.level trees)) refl (sym c.read)

argument_ends : (old middle new : MiniTokenReader) (t : Tok) (popped : List Frame) (f : Frame) (nest : NestId) (h after : Hole) (p : Stage) → p ≡ stage.Ready
    → IsNext old middle new popped f nest h after → IsTakenOn (λ trees. parted (state_of trees old stage.Ready) t (frames_of trees old.frames.items)) new p
argument_ends old middle new t popped f nest h after p e c more = rw (e, c.nests) (argument_at old middle new t popped f nest h after more c)

pub parts : (old middle new : MiniTokenReader) (t : Tok) (popped : List Frame) (f : Frame) (nest : NestId) (h after : Hole)
    (result : Result (Unit {0}) (Faulted MiniKind))
    → old.frames.items ≡ popped ++ f ∷ []
    → StaysAt (trees_in old.nests) old stage.Ready
    → HasNested old middle nest
    → f.hole ≡ h
    → ((trees : List tree.Layers) → goes_on (hole_of trees h) ≡ true)
    → ((trees : List tree.Layers) → hole_of trees after ≡ next_hole (hole_of trees h) (named trees nest))
    → ((trees : List tree.Layers) → level_of trees middle.level ≡ first_level Count)
    → middle.frames.items ≡ popped
    → middle.read ≡ old.read
    → OnOk result (new.frames.items ≡ middle.frames.items ++ record { level = f.level; hole = after } ∷ [])
    → OnOk result (new.level ≡ middle.level)
    → OnOk result (new.nests ≡ middle.nests)
    → OnOk result (new.read ≡ middle.read)
    → OnOk result (IsTakenOn (λ trees. parted (state_of trees old stage.Ready) t (frames_of trees old.frames.items)) new stage.Ready)
parts old middle new t popped f nest h after (Err fault) items stays nested is on next first frames read pushed level nests later = tt
parts old middle new t popped f nest h after (Ok _) items stays nested is on next first frames read pushed level nests later =
    argument_ends old middle new t popped f nest h after stage.Ready refl (record {
      items = items;
      stays = stays;
      nested = nested;
      is = is;
      on = on;
      next = next;
      level = λ trees. ap (level_of trees) level ∙ first trees;
      frames = pushed ∙ ap (λ xs. xs ++ record { level = f.level; hole = after } ∷ []) frames;
      nests = nests;
      read = later ∙ read;
    })
