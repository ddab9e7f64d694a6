-- What the links of slots mean.
--     IsBehind    an item comes after another one, or there is no other
--     Leads       a link to the first of a chain's items that come after this one, or to none where none does
--     IsFree      links from one free slot to the next, to the last
--     IsLinked    the heads of the chains, the links and the free slots, as they have to be
--     IsFirst     the slot of the item whose turn is first, or none
--     HasTails    the slot of each chain's last item, or none
use Rattle.std.specs.Prelude.{◌≡◌, ◌≢◌, ℕ, ◌+◌, ◌<◌, ◌⊎◌, true, List, [], ◌∷◌, length, get_or, Option, Some, None}
use Rattle.std.specs.List.{AllByRecursion}
use Rattle.tdl_agenda.specs.declared.items.Item.{Item}
use Rattle.tdl_agenda.specs.declared.chains.Slot.{Slot}
use Rattle.tdl_agenda.specs.declared.chains.Chains.{Chains}
use Rattle.tdl_agenda.specs.Agenda.{is_below, IsSorted}
use Rattle.tdl_agenda.specs.Slots.{chain_of, in_order, item_at, next_at}

abbrev pub IsBehind : Option Item → Item → Type 0
IsBehind None y = Unit {0}
IsBehind (Some x) y = is_below x y ≡ true

pub record IsNext (slots : List Slot) (k : ℕ) (low : Option Item) (i : ℕ) : Type 0 where
  pub item : Item
  pub there : item_at slots i ≡ Some item
  pub chain : chain_of item ≡ k
  pub behind : IsBehind low item
  pub first : (j : ℕ) (y : Item) → item_at slots j ≡ Some y → chain_of y ≡ k → IsBehind low y → (j ≡ i) ⊎ (is_below item y ≡ true)

abbrev pub Leads : List Slot → ℕ → Option Item → Option ℕ → Type 0
Leads slots k low None = (j : ℕ) (y : Item) → item_at slots j ≡ Some y → chain_of y ≡ k → IsBehind low y → ⊥
Leads slots k low (Some i) = IsNext slots k low i

abbrev pub IsFree : List Slot → Option ℕ → List ℕ → Type 0
IsFree slots at [] = at ≡ None
IsFree slots at (j ∷ path) =
    (at ≡ Some j) × (j < length slots) × (item_at slots j ≡ None) × AllByRecursion (λ i. j ≢ i) path × IsFree slots (next_at slots j) path

pub record IsLinked (slots : List Slot) (heads : List (Option ℕ)) (free : Option ℕ) (len : ℕ) : Type 0 where
  pub sorted : IsSorted (in_order slots)
  pub apart : (i j : ℕ) (x y : Item) → item_at slots i ≡ Some x → item_at slots j ≡ Some y → x.order ≡ y.order → i ≡ j
  pub chains : length heads ≡ 64
  pub firsts : (k : ℕ) → k < 64 → Leads slots k None (get_or heads k None)
  pub links : (j : ℕ) (x : Item) → item_at slots j ≡ Some x → Leads slots (chain_of x) (Some x) (next_at slots j)
  pub count : len ≡ length (in_order slots)
  pub path : List ℕ
  pub room : length path + len ≡ length slots
  pub freed : IsFree slots free path

abbrev pub AreLinked : Chains → Type 0
AreLinked chains = IsLinked chains.slots.items chains.heads chains.free chains.len

pub record IsLeast (slots : List Slot) (i : ℕ) : Type 0 where
  pub item : Item
  pub there : item_at slots i ≡ Some item
  pub least : (j : ℕ) (y : Item) → item_at slots j ≡ Some y → (j ≡ i) ⊎ (is_below item y ≡ true)

abbrev pub IsFirst : List Slot → Option ℕ → Type 0
IsFirst slots None = in_order slots ≡ []
IsFirst slots (Some i) = IsLeast slots i

pub record IsTail (slots : List Slot) (k : ℕ) (i : ℕ) : Type 0 where
  pub item : Item
  pub there : item_at slots i ≡ Some item
  pub chain : chain_of item ≡ k
  pub last : (j : ℕ) (y : Item) → item_at slots j ≡ Some y → chain_of y ≡ k → (j ≡ i) ⊎ (is_below y item ≡ true)

abbrev pub IsLast : List Slot → ℕ → Option ℕ → Type 0
IsLast slots k None = (j : ℕ) (y : Item) → item_at slots j ≡ Some y → chain_of y ≡ k → ⊥
IsLast slots k (Some i) = IsTail slots k i

pub record HasTails (slots : List Slot) (tails : List (Option ℕ)) : Type 0 where
  pub chains : length tails ≡ 64
  pub lasts : (k : ℕ) → k < 64 → IsLast slots k (get_or tails k None)
