-- What the steps of an insert and of a pop say to each other.
--     IsTaken        a slot has an item
--     ApartFrom      no item has this one's order number
--     IsWalked       all of a chain's items up to a slot are below an item, and the next one is known
--     IsPlace        an item belongs between two slots of its chain
--     IsGained       slots with one item more, in a slot that was free
--     IsBelowAll     an item is below those of all slots
--     NotAbove       the item of a slot is not above that of another
--     IsLowest       a slot, or none, whose item is not above those of the others
use Rattle.std.specs.Prelude.{◌≡◌, ◌≢◌, ℕ, ◌<◌, ◌⊎◌, true, false, List, length, get_or, Option, Some, None, IsSome}
use Rattle.tdl_agenda.specs.declared.items.Item.{Item}
use Rattle.tdl_agenda.specs.declared.chains.Slot.{Slot}
use Rattle.tdl_agenda.specs.Agenda.{is_below}
use Rattle.tdl_agenda.specs.Slots.{chain_of, item_at}
use Rattle.tdl_agenda.specs.Linked.{Leads}

abbrev pub IsTaken : List Slot → ℕ → Type 0
IsTaken slots i = IsSome (item_at slots i)

abbrev pub HasItem : List Slot → Option ℕ → Type 0
HasItem slots None = Unit {0}
HasItem slots (Some i) = IsTaken slots i

abbrev pub ApartFrom : List Slot → Item → Type 0
ApartFrom slots x = (j : ℕ) (y : Item) → item_at slots j ≡ Some y → y.order ≢ x.order

abbrev pub low_of : List Slot → Option ℕ → Option Item
low_of slots None = None
low_of slots (Some i) = item_at slots i

pub record IsUnder (slots : List Slot) (x : Item) (i : ℕ) : Type 0 where
  pub item : Item
  pub there : item_at slots i ≡ Some item
  pub chain : chain_of item ≡ chain_of x
  pub below : is_below item x ≡ true

abbrev pub IsBefore : List Slot → Item → Option ℕ → Type 0
IsBefore slots x None = Unit {0}
IsBefore slots x (Some i) = IsUnder slots x i

abbrev pub IsAfter : List Slot → Item → Option ℕ → Type 0
IsAfter slots x None = Unit {0}
IsAfter slots x (Some i) = (z : Item) → item_at slots i ≡ Some z → is_below x z ≡ true

pub record IsWalked (slots : List Slot) (x : Item) (before after : Option ℕ) : Type 0 where
  pub low : IsBefore slots x before
  pub leads : Leads slots (chain_of x) (low_of slots before) after

pub record IsPlace (slots : List Slot) (x : Item) (before after : Option ℕ) : Type 0 where
  pub walked : IsWalked slots x before after
  pub high : IsAfter slots x after

pub record IsGained (old new : List Slot) (f : ℕ) (x : Item) : Type 0 where
  pub was_free : item_at old f ≡ None
  pub here : item_at new f ≡ Some x
  pub others : (j : ℕ) → j ≢ f → item_at new j ≡ item_at old j

abbrev pub IsBelowAll : List Slot → Item → Type 0
IsBelowAll slots x = (j : ℕ) (y : Item) → item_at slots j ≡ Some y → is_below x y ≡ true

abbrev pub NotAbove : List Slot → Option ℕ → Option ℕ → Type 0
NotAbove slots at None = Unit {0}
NotAbove slots None (Some j) = ⊥
NotAbove slots (Some i) (Some j) = (x y : Item) → item_at slots i ≡ Some x → item_at slots j ≡ Some y → is_below y x ≡ false

abbrev pub HaveItems : List Slot → List (Option ℕ) → Type 0
HaveItems slots heads = (k : ℕ) → k < length heads → HasItem slots (get_or heads k None)

pub record IsLowest (slots : List Slot) (heads : List (Option ℕ)) (at : Option ℕ) : Type 0 where
  pub among : (at ≡ None) ⊎ ((k : ℕ) × (k < length heads) × (at ≡ get_or heads k None))
  pub low : (k : ℕ) → k < length heads → NotAbove slots at (get_or heads k None)
