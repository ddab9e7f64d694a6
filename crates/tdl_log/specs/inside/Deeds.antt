-- What lines tell was done.
--     IsSwapAt      a text that changes what is played from a boundary on, where so many units are played
--     IsPlain       no swap, and not past the last cycle
--     MayBePlain    no swap, and may be done after these entries
use Rattle.std.specs.Prelude.{◌≡◌, ℕ, ◌≤◌, List}
use Rattle.tdl_fraction.specs.Units.{last_units}
use Rattle.tdl_desk.specs.declared.changes.Change.{Change}
use Rattle.tdl_expr.specs.Tree.{Tree}
use Rattle.tdl_score.specs.declared.histories.Entry.{Entry}
use Rattle.tdl_score.specs.declared.histories.Deed.{Deed}
use Rattle.tdl_score.specs.declared.histories.Deed.TheVariants.{Swap, Look, Tick, Finish}
use Rattle.tdl_score.specs.History.{IsFinishAfter, IsPerformedAfter, IsTickAfter, boundary_of}
use Rattle.tdl_score.specs.Readings.{Reading}

pub record IsSwapAt (Reads : Reading) (units boundary : ℕ) (text : List ℕ) : Type 0 where
  pub every : ℕ
  pub change : Change Tree
  pub reads : Reads text every change
  pub on_cycle : boundary ≡ boundary_of units every

abbrev pub IsPlain : Deed → Type 0
IsPlain (Swap boundary text) = ⊥
IsPlain Look = Unit {0}
IsPlain (Tick to) = to ≤ last_units
IsPlain Finish = Unit {0}

abbrev pub MayBePlain : List Entry → ℕ → Deed → Type 0
MayBePlain entries who (Swap boundary text) = ⊥
MayBePlain entries who Look = IsPerformedAfter entries who
MayBePlain entries who (Tick to) = IsTickAfter entries who to
MayBePlain entries who Finish = IsFinishAfter entries who
