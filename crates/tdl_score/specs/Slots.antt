-- How a history keeps its entries.
--     kept_entries    those of the list, and then the finish, where it has its own place
--     IsStored        few entries of times that have a print; what stands in the finish's place is one; and where there is room, it is there
use Rattle.std.specs.Prelude.{◌≡◌, ℕ, ◌+◌, ◌^◌, ◌<◌, ◌≤◌, Bool, true, List, ◌++◌, length, Option, option_to_list, IfSome}
use Rattle.std.specs.List.{AllByRecursion}
use Rattle.tdl_score.specs.declared.histories.Entry.{Entry}
use Rattle.tdl_score.specs.declared.histories.Deed.TheVariants.{Finish}
use Rattle.tdl_score.specs.Placed.{IsPlaced}

abbrev pub kept_entries : List Entry → Option Entry → List Entry
kept_entries entries finish = entries ++ option_to_list finish

pub record IsStored (entries : List Entry) (finish : Option Entry) (has_room : Bool) (size capacity : ℕ) : Type 0 where
  pub few : length (kept_entries entries finish) < 2 ^ 32
  pub placed : AllByRecursion IsPlaced (kept_entries entries finish)
  pub deed : IfSome finish (λ e. e.deed ≡ Finish)
  pub room : has_room ≡ true → size + 2 ≤ capacity
