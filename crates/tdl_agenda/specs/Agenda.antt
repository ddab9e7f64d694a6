-- Items that wait for their times.
--     Kept        what an agenda in use keeps: its items, and for how many items more it has room
--     is_below    an item's time is earlier than another's, or it is the same and its order number is lower
--     IsSorted    each item is below all behind it
--     inserted    a list with an item more, before the first one that is above it
--     numbered    a list whose order numbers count on from one
use Rattle.std.specs.Prelude.{◌≡◌, ℕ, suc, nat_lt, Bool, true, ◌&&◌, ◌||◌, if◌then◌else◌, List, [], ◌∷◌}
use Rattle.std.specs.List.{AllByRecursion}
use Rattle.tdl_fraction.specs.Rational.{lt_ℚ}
use Rattle.tdl_fraction.specs.Same.{same_ℚ}
use Rattle.tdl_agenda.specs.declared.items.Item.{Item}

pub record Kept : Type 0 where
  pub items : List Item
  pub spare : ℕ

abbrev pub is_below : Item → Item → Bool
is_below one other = lt_ℚ one.time other.time || (same_ℚ one.time other.time && nat_lt one.order other.order)

abbrev pub IsSorted : List Item → Type 0
IsSorted [] = Unit {0}
IsSorted (item ∷ items) = AllByRecursion (λ other. is_below item other ≡ true) items × IsSorted items

abbrev pub inserted : Item → List Item → List Item
inserted item [] = item ∷ []
inserted item (other ∷ items) = if is_below item other then item ∷ other ∷ items else other ∷ inserted item items

abbrev pub numbered : ℕ → List Item → List Item
numbered n [] = []
numbered n (item ∷ items) = record { time = item.time; order = n; note = item.note } ∷ numbered (suc n) items
