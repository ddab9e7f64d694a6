-- What the machine says of what the reader does, over the trees that the reader names.
--     fault_in                 the first rule of a list that does not hold
--     FailsAt, FailsIn         a fault by a rule that does not hold; by the first of a list
--     IsTaken, IsRefused       what the machine says, over any trees
--     mark_at                  a mark at a stage
--     value_at, number_at      a value at a stage; a number
--     first_value, count_at    the value that begins a step; a count after `!`
--     uncounted_at, recount    a token that would be a count; a count for the last step
--     hold_at                  a `_` between elements
--     next_group, text_end     a dot, and the end of the text, between elements
--     bracket_end, euclid_end, next_part    the end of a bracket and of a Euclid, and a comma in it, between elements
--     bracket_at, unfit_at, settled_before  a bracket that opens; a token that goes on with no step; an element that ends
--     going_on                 a mark after a step
--     step_added, repeat_added, IsAdded, IsNotAdded    a step, and a `!`, put at the end of the group
--     IsGrown, is_within_with  an element is put there; with a range the group is no larger than it may be
use Rattle.std.specs.Prelude.{◌≡◌, ℕ, suc, Bool, false, Option, Some, None, Ok, List, [], ◌∷◌, if◌then◌else◌, true}
use Rattle.tdl_control.specs.declared.faults.Faulted.{Faulted}
use Rattle.tdl_control.specs.declared.faults.Faulted.TheVariants.{NoMemory, At}
use Rattle.tdl_mini_tree.specs.declared.faults.MiniKind.{MiniKind}
use Rattle.tdl_mini_reader.specs.declared.stages.Stage.{Stage}
use Rattle.tdl_mini_reader.specs.declared.reader.MiniTokenReader.{MiniTokenReader}
use Rattle.tdl_mini_machine.specs.Rules.{Test}
use Rattle.tdl_mini_tree.specs.Tree as tree
use Rattle.tdl_mini_machine.specs.Machine.States as machine
use Rattle.tdl_mini_machine.specs.Machine.States.{Taken, pending}
use Rattle.tdl_mini_machine.specs.Machine.Marks.{taken_mark, with_hold, with_dot, continued}
use Rattle.tdl_mini_machine.specs.Machine.Values.{with_value, with_number, with_counting, uncounted, with_count, counted_group, valued}
use Rattle.tdl_mini_machine.specs.Machine.Brackets.{closed, euclid_closed, parted, opened_at}
use Rattle.tdl_mini_machine.specs.Machine.Running.{at_end}
use Rattle.tdl_mini_machine.specs.Machine.Settling.{unfit, settled, added, grown}
use Rattle.tdl_mini_tree.specs.declared.leaves.Number.{Number}
use Rattle.tdl_mini_tree.specs.declared.leaves.Bracket.{Bracket}
use Rattle.tdl_mini_tree.specs.declared.leaves.Kind.{Kind}
use Rattle.tdl_mini_machine.specs.declared.marks.Mark.{Mark}
use Rattle.tdl_mini_reader.specs.declared.tokens.Tok.{Tok}
use Rattle.tdl_mini_tree.specs.declared.tree.Element.{Element}
use Rattle.tdl_mini_tree.specs.declared.tree.MiniStep.{MiniStep}
use Rattle.tdl_mini_reader.specs.declared.stages.Stage.TheVariants.{Ready, Repeating}
use Rattle.tdl_mini_reader.specs.declared.stages.Hole.{Hole}
use Rattle.tdl_mini_tree.specs.Tree.{Layers, MiniStep as StepTree, element, played, range, repeat}
use Rattle.tdl_mini_machine.specs.Tokens.{value_of}
use Rattle.tdl_mini_tree.specs.Sizes.{size_of, is_within}
use Rattle.tdl_mini_tree.specs.View.{group_of, element_of, step_of}
use Rattle.tdl_mini_reader.specs.TokenView.{tok_value}
use Rattle.tdl_mini_reader.specs.ReaderView.{state_of, stage_of, level_of, hole_of, frames_of, Refusal}

abbrev pub fault_in : List Test → Option MiniKind
fault_in [] = None
fault_in (test ∷ tests) = if test.holds then fault_in tests else Some test.kind

-- a rule at a token does not hold
abbrev pub FailsAt : MiniKind → ℕ → Bool → Faulted MiniKind → Type 0
FailsAt kind at holds NoMemory = Unit {0}
FailsAt kind at holds (At k a) = (k ≡ kind) × (a ≡ at) × (holds ≡ false)

-- the state after a token, at a stage
abbrev pub past_of : List tree.Layers → MiniTokenReader → Stage → machine.State
past_of trees r p = record { frames = frames_of trees r.frames.items; level = level_of trees r.level; stage = stage_of trees p; read = suc r.read }

-- what the machine says, over any trees
abbrev pub IsTaken : (List tree.Layers → Taken) → MiniTokenReader → Stage → Type 0
IsTaken taken r p = (trees : List tree.Layers) → taken trees ≡ Ok (past_of trees r p)

abbrev pub IsRefused : (List tree.Layers → Taken) → Faulted MiniKind → Type 0
IsRefused taken fault = (trees : List tree.Layers) → Refusal (taken trees) fault

abbrev pub mark_at : MiniTokenReader → Stage → Tok → Mark → List Layers → Taken
mark_at r p t m trees = taken_mark true (state_of trees r p) (tok_value t) m

abbrev pub value_at : MiniTokenReader → Stage → Tok → List Layers → Taken
value_at r p t trees = with_value true (state_of trees r p) (tok_value t)

abbrev pub number_at : MiniTokenReader → Stage → Tok → Number → List Layers → Taken
number_at r p t n trees = with_number true (state_of trees r p) (tok_value t) n (stage_of trees p)

abbrev pub first_value : MiniTokenReader → Tok → List Layers → Taken
first_value r t trees = valued true (state_of trees r Ready) (tok_value t) (value_of r.level.kind (tok_value t))

abbrev pub count_at : MiniTokenReader → Stage → Tok → Number → List Layers → Taken
count_at r p t n trees = with_counting true (state_of trees r p) (tok_value t) n (stage_of trees p)

abbrev pub recount : MiniTokenReader → Number → List Layers → Taken
recount r n trees = counted_group true (state_of trees r (Repeating true)) (with_count (group_of trees r.level.elements.items) n)

abbrev pub uncounted_at : MiniTokenReader → Stage → Tok → List Layers → Taken
uncounted_at r p t trees = uncounted true (state_of trees r p) (tok_value t) (stage_of trees p)

abbrev pub hold_at : MiniTokenReader → Tok → List Layers → Taken
hold_at r t trees = with_hold true (state_of trees r Ready) (tok_value t)

abbrev pub next_group : MiniTokenReader → List Layers → Taken
next_group r trees = with_dot true (state_of trees r Ready)

abbrev pub text_end : MiniTokenReader → Tok → List Layers → Taken
text_end r t trees = at_end (state_of trees r Ready) (tok_value t) (frames_of trees r.frames.items)

abbrev pub bracket_end : MiniTokenReader → Tok → Bracket → List Layers → Taken
bracket_end r t b trees = closed (state_of trees r Ready) (tok_value t) b (frames_of trees r.frames.items)

abbrev pub euclid_end : MiniTokenReader → Tok → List Layers → Taken
euclid_end r t trees = euclid_closed true (state_of trees r Ready) (tok_value t) (frames_of trees r.frames.items)

abbrev pub next_part : MiniTokenReader → Tok → List Layers → Taken
next_part r t trees = parted (state_of trees r Ready) (tok_value t) (frames_of trees r.frames.items)

abbrev pub bracket_at : MiniTokenReader → Stage → Tok → Hole → Kind → List Layers → Taken
bracket_at r p t hole kind trees = opened_at (state_of trees r p) (tok_value t) (level_of trees r.level) (hole_of trees hole) kind

abbrev pub unfit_at : MiniTokenReader → Stage → Tok → List Layers → Taken
unfit_at r p t trees = unfit true (state_of trees r p) (tok_value t)

abbrev pub settled_before : MiniTokenReader → Stage → Tok → List Layers → Taken
settled_before r p t trees = settled true (state_of trees r p) (tok_value t)

-- a mark that goes on with the step that ends at a stage
abbrev pub going_on : MiniTokenReader → Stage → Tok → (StepTree → Taken) → List Layers → Taken
going_on r p t next trees = continued true (state_of trees r p) (tok_value t) (pending (stage_of trees p)) next

-- the first rule of a list that does not hold is the fault, at a token
abbrev pub FailsIn : List Test → ℕ → Faulted MiniKind → Type 0
FailsIn tests at fault = (kind : MiniKind) × (fault ≡ At kind at) × (fault_in tests ≡ Some kind)

abbrev pub step_added : MiniTokenReader → MiniStep → Option Number → List Layers → Stage → Taken
step_added r s weight trees p = added true (state_of trees r p) (played (step_of trees s) weight None)

abbrev pub repeat_added : MiniTokenReader → List Layers → Stage → Taken
repeat_added r trees p = added true (state_of trees r p) repeat

abbrev pub IsAdded : (List Layers → Stage → Taken) → MiniTokenReader → Type 0
IsAdded added r = (trees : List Layers) (stage : Stage) → added trees stage ≡ Ok (state_of trees r Ready)

abbrev pub IsNotAdded : (List Layers → Stage → Taken) → Faulted MiniKind → Type 0
IsNotAdded added fault = (trees : List Layers) (stage : Stage) → Refusal (added trees stage) fault

abbrev pub IsGrown : MiniTokenReader → MiniTokenReader → Element → Type 0
IsGrown old new e = (trees : List Layers) (stage : Stage) → state_of trees new Ready ≡ grown (state_of trees old stage) (element_of trees e)

abbrev pub is_within_with : MiniTokenReader → Number → Number → Bool
is_within_with r a b = is_within r.level.before (size_of (element (group_of [] r.level.elements.items) (range a b)))
