-- What a call of the reader answers at a token, as the machine does.
--     Follows          a call with which no layers are finished
--     FollowsOn        a call with which some may be
use Rattle.std.specs.Prelude.{◌≡◌, Result, List, IfErr, OnOk}
use Rattle.tdl_control.specs.declared.faults.Faulted.{Faulted}
use Rattle.tdl_mini_tree.specs.declared.faults.MiniKind.{MiniKind}
use Rattle.tdl_mini_reader.specs.declared.stages.Stage.{Stage}
use Rattle.tdl_mini_reader.specs.declared.reader.MiniTokenReader.{MiniTokenReader}
use Rattle.tdl_mini_tree.specs.Tree.{Layers}
use Rattle.tdl_mini_machine.specs.Machine.States.{Taken}
use Rattle.tdl_mini_reader.specs.NestsView.{trees_in}
use Rattle.tdl_mini_reader.specs.inside.GrowthView.{IsTakenOn, IsRefusedOn}
use Rattle.tdl_mini_reader.specs.ReaderView.{HasGrown}
use Rattle.tdl_mini_reader.specs.inside.Calls.{IsTaken, IsRefused}

pub record Follows (machine : List Layers → Taken) (old new : MiniTokenReader) (next : Stage) (result : Result (Unit {0}) (Faulted MiniKind)) : Type 0 where
  pub ok : OnOk result (IsTaken machine new next)
  pub nests : OnOk result (new.nests ≡ old.nests)
  pub err : IfErr result (IsRefused machine)

pub record FollowsOn (machine : List Layers → Taken) (old new : MiniTokenReader) (next : Stage) (result : Result (Unit {0}) (Faulted MiniKind)) : Type 0 where
  pub ok : OnOk result (IsTakenOn machine new next)
  pub grown : OnOk result (HasGrown old.nests new.nests)
  pub err : IfErr result (IsRefusedOn machine (trees_in old.nests))
