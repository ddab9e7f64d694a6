-- What a history keeps.
--     HistoryView   its entries, and whether one more has its room
--     IsPlaced      the times of an entry have a print: none is past the last cycle
use Rattle.std.specs.Prelude.{◌≤◌, Bool, List}
use Rattle.tdl_fraction.specs.Units.{last_units}
use Rattle.tdl_score.specs.declared.histories.Entry.{Entry}
use Rattle.tdl_score.specs.declared.histories.Deed.{Deed}
use Rattle.tdl_score.specs.declared.histories.Deed.TheVariants.{Swap, Look, Tick, Finish}

pub record HistoryView : Type 0 where
  pub entries : List Entry
  pub has_room : Bool

abbrev pub IsPlacedDeed : Deed → Type 0
IsPlacedDeed (Swap boundary text) = Unit {0}
IsPlacedDeed Look = Unit {0}
IsPlacedDeed (Tick to) = to ≤ last_units
IsPlacedDeed Finish = Unit {0}

pub record IsPlaced (e : Entry) : Type 0 where
  pub frontier : e.frontier ≤ last_units
  pub deed : IsPlacedDeed e.deed
