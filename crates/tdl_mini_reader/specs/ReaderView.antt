-- What the parts of the reader stand for, over the trees of the layers that they name, and what taking a token says.
--     stage_of, hole_of    a stage of the machine, and an open bracket; likewise for what is kept in them
--     level_of             a level
--     frames_of            the frames, of which the innermost comes first
--     state_of             the machine's state
--     Refusal              the fault that the machine answers
--     taken_at             what the machine says of a token at a stage
--     IsReadTo             the machine comes to the reader's state
--     StaysAt              further layers change nothing in what is read so far
--     HasGrown             there is one more finished layer at most
use Rattle.std.specs.Prelude.{◌≡◌, Option, Some, None, Ok, Err, List, [], ◌∷◌, true, ◌≤◌, ◌++◌, length}
use Rattle.std.specs.List.{fold}
use Rattle.tdl_control.specs.Word.{word_bytes}
use Rattle.tdl_control.specs.declared.faults.Faulted.{Faulted}
use Rattle.tdl_control.specs.declared.faults.Faulted.TheVariants.{NoMemory, At}
use Rattle.tdl_mini_tree.specs.declared.faults.MiniKind.{MiniKind}
use Rattle.tdl_mini_reader.specs.declared.stages.Role.{Role}
use Rattle.tdl_mini_reader.specs.declared.stages.Role.TheVariants as role
use Rattle.tdl_mini_reader.specs.declared.stages.Stage.{Stage}
use Rattle.tdl_mini_reader.specs.declared.stages.Stage.TheVariants as stage
use Rattle.tdl_mini_reader.specs.declared.stages.Hole.{Hole}
use Rattle.tdl_mini_reader.specs.declared.stages.Hole.TheVariants as hole
use Rattle.tdl_mini_reader.specs.declared.levels.Level.{Level}
use Rattle.tdl_mini_reader.specs.declared.levels.Frame.{Frame}
use Rattle.tdl_mini_reader.specs.declared.reader.MiniTokenReader.{MiniTokenReader}
use Rattle.tdl_mini_tree.specs.Tree as tree
use Rattle.tdl_mini_tree.specs.View.{named, braces_of, step_of, group_of, sequence_of, layers_of}
use Rattle.tdl_mini_machine.specs.Machine.States as machine
use Rattle.tdl_mini_machine.specs.Machine.States.{Taken, fault_kind, fault_at}
use Rattle.tdl_mini_machine.specs.Machine.Running.{taken}
use Rattle.tdl_mini_reader.specs.declared.tokens.Tok.{Tok}
use Rattle.tdl_mini_reader.specs.TokenView.{tok_value}
use Rattle.tdl_mini_reader.specs.declared.nests.Nests.{Nests}
use Rattle.tdl_mini_reader.specs.NestsView.{trees_in}

abbrev pub role_of : List tree.Layers → Role → machine.Role
role_of trees role.Term = machine.term
role_of trees (role.Faster step) = machine.faster (step_of trees step)
role_of trees (role.Slower step) = machine.slower (step_of trees step)

abbrev pub stage_of : List tree.Layers → Stage → machine.Stage
stage_of trees stage.Ready = machine.ready
stage_of trees (stage.Voiced word) = machine.voiced (word_bytes word)
stage_of trees (stage.Sampling word) = machine.sampling (word_bytes word)
stage_of trees (stage.Numbered n) = machine.numbered n
stage_of trees (stage.Ranging n) = machine.ranging n
stage_of trees (stage.Braced role braces last) = machine.braced (role_of trees role) (braces_of trees braces.items) (named trees last)
stage_of trees (stage.Wanting role braces) = machine.wanting (role_of trees role) (braces_of trees braces.items)
stage_of trees (stage.Stepping step) = machine.stepping (step_of trees step)
stage_of trees (stage.Weighing step) = machine.weighing (step_of trees step)
stage_of trees (stage.Weighted step n) = machine.weighted (step_of trees step) n
stage_of trees (stage.Repeating takes_count) = machine.repeating takes_count
stage_of trees stage.Ended = machine.ended

abbrev pub hole_of : List tree.Layers → Hole → machine.Hole
hole_of trees (hole.Operand role braces shape) = machine.operand (role_of trees role) (braces_of trees braces.items) shape
hole_of trees (hole.Hits step) = machine.hits (step_of trees step)
hole_of trees (hole.Steps step hits) = machine.steps (step_of trees step) (named trees hits)
hole_of trees (hole.From step hits steps) = machine.from (step_of trees step) (named trees hits) (named trees steps)

abbrev pub level_of : List tree.Layers → Level → machine.Level
level_of trees l = record {
  kind = l.kind;
  layers = layers_of trees l.sequences.items;
  groups = sequence_of trees l.groups.items;
  group = group_of trees l.elements.items;
  start = l.start;
}

abbrev pub frame_of : List tree.Layers → Frame → machine.Frame
frame_of trees f = record { level = level_of trees f.level; hole = hole_of trees f.hole }

abbrev pub frames_of : List tree.Layers → List Frame → List machine.Frame
frames_of trees frames = fold (λ inner f. frame_of trees f ∷ inner) [] frames

abbrev pub state_of : List tree.Layers → MiniTokenReader → Stage → machine.State
state_of trees r p = record { frames = frames_of trees r.frames.items; level = level_of trees r.level; stage = stage_of trees p; read = r.read }

abbrev pub fault_of : Taken → Option (Faulted MiniKind)
fault_of (Ok state) = None
fault_of (Err fault) = Some (At (fault_kind fault) (fault_at fault))

-- out of memory says nothing
abbrev pub Refusal : Taken → Faulted MiniKind → Type 0
Refusal taken NoMemory = Unit {0}
Refusal taken (At kind at) = fault_of taken ≡ Some (At kind at)

abbrev pub taken_at : MiniTokenReader → Stage → Tok → List tree.Layers → Taken
taken_at r p t trees = taken true (state_of trees r p) (tok_value t)

-- over these trees the machine comes to the reader's state, at a stage
abbrev pub IsReadTo : (List tree.Layers → Taken) → MiniTokenReader → Stage → List tree.Layers → Type 0
IsReadTo taken r p trees = taken trees ≡ Ok (state_of trees r p)

abbrev pub StaysAt : List tree.Layers → MiniTokenReader → Stage → Type 0
StaysAt trees r p = (more : List tree.Layers) → state_of (trees ++ more) r p ≡ state_of trees r p

pub record HasGrown (old new : Nests) : Type 0 where
  pub added : List tree.Layers
  pub trees : trees_in new ≡ trees_in old ++ added
  pub few : length added ≤ 1
