-- What the reader's steps say where finished layers are added.
--     MayNest          finished layers may be added
--     IsTakenOn        what the machine says, over the reader's layers and any further ones
--     IsRefusedOn      likewise where it answers a fault
--     HasNested        the layers of a level are one more
--     euclid_accepted  the test of a Euclid whose arguments are finished
--     is_inside        a mark with which no layers are finished
--     is_plain         a token that is no mark
use Rattle.std.specs.Prelude.{◌≡◌, ◌<◌, ◌-◌, ◌^◌, Bool, true, false, Option, Some, None, Ok, List, [], ◌∷◌, ◌++◌, length}
use Rattle.tdl_control.specs.declared.faults.Faulted.{Faulted}
use Rattle.tdl_mini_tree.specs.declared.faults.MiniKind.{MiniKind}
use Rattle.tdl_mini_tree.specs.declared.tree.NestId.{NestId}
use Rattle.tdl_mini_reader.specs.declared.stages.Stage.{Stage}
use Rattle.tdl_mini_reader.specs.declared.reader.MiniTokenReader.{MiniTokenReader}
use Rattle.tdl_mini_machine.specs.declared.marks.Mark.{Mark}
use Rattle.tdl_mini_machine.specs.declared.marks.Mark.TheVariants as mark
use Rattle.tdl_mini_machine.specs.Tokens.{Tok, digits, letters}
use Rattle.tdl_mini_machine.specs.Tokens as token
use Rattle.tdl_mini_tree.specs.Tree as tree
use Rattle.tdl_mini_tree.specs.View.{named}
use Rattle.tdl_mini_tree.specs.Values.{values_of, is_accepted, is_accepted_from}
use Rattle.tdl_mini_reader.specs.NestsView.{trees_in}
use Rattle.tdl_mini_machine.specs.Machine.States.{Taken, closed_layers}
use Rattle.tdl_mini_reader.specs.inside.Calls.{past_of}
use Rattle.tdl_mini_reader.specs.ReaderView.{level_of, Refusal, StaysAt}

-- finished layers may be added at a stage
pub record MayNest (r : MiniTokenReader) (p : Stage) : Type 0 where
  pub stays : StaysAt (trees_in r.nests) r p
  pub room : length (trees_in r.nests) < 2 ^ 32 - 1

abbrev pub IsTakenOn : (List tree.Layers → Taken) → MiniTokenReader → Stage → Type 0
IsTakenOn taken r p = (more : List tree.Layers) → taken (trees_in r.nests ++ more) ≡ Ok (past_of (trees_in r.nests ++ more) r p)

abbrev pub IsRefusedOn : (List tree.Layers → Taken) → List tree.Layers → Faulted MiniKind → Type 0
IsRefusedOn taken trees fault = (more : List tree.Layers) → Refusal (taken (trees ++ more)) fault

pub record HasNested (old new : MiniTokenReader) (nest : NestId) : Type 0 where
  pub trees : trees_in new.nests ≡ trees_in old.nests ++ closed_layers (level_of (trees_in old.nests) old.level) ∷ []
  pub name : (more : List tree.Layers) → named (trees_in new.nests ++ more) nest ≡ closed_layers (level_of (trees_in old.nests) old.level)

abbrev pub euclid_accepted : List tree.Layers → NestId → NestId → Option NestId → Bool
euclid_accepted trees k n None = is_accepted (values_of (named trees k)) (values_of (named trees n))
euclid_accepted trees k n (Some r) = is_accepted_from (values_of (named trees k)) (values_of (named trees n)) (values_of (named trees r))

abbrev pub is_inside : Mark → Bool
is_inside mark.Rest = true
is_inside (mark.Open _) = true
is_inside (mark.Close _) = false
is_inside mark.OpenRound = true
is_inside mark.CloseRound = false
is_inside mark.Comma = false
is_inside mark.Repeat = true
is_inside mark.Star = true
is_inside mark.Slash = true
is_inside mark.At = true
is_inside mark.Colon = true
is_inside mark.Percent = true
is_inside mark.Question = true
is_inside mark.Bar = true
is_inside mark.Caret = true
is_inside mark.Hold = true
is_inside mark.Dot = true
is_inside mark.Range = true

abbrev pub is_plain : Tok → Bool
is_plain (digits n text is_count) = true
is_plain (letters text is_count) = true
is_plain (token.mark m) = false
is_plain token.end = true
