-- What holds of the notes that sound, whatever has been played: the ends that wait are of notes and have numbers below the next, and there is
-- room for the message of each.
use Rattle.std.specs.Prelude.{◌≡◌, ℕ, ◌<◌, ◌≤◌, List, [], length}
use Rattle.std.specs.List.{AllByRecursion}
use Rattle.tdl_agenda.specs.declared.items.Item.{Item}
use Rattle.tdl_midi.specs.Notes.{IsNote}

pub record IsReady (items : List Item) (next : ℕ) (finale : List (List ℕ)) (size capacity : ℕ) : Type 0 where
  pub numbered : AllByRecursion (λ item. item.order < next) items
  pub notes : AllByRecursion (λ item. IsNote item.note) items
  pub empty : finale ≡ []
  pub len : size ≡ 0
  pub room : length items ≤ capacity
