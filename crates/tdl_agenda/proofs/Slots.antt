-- What slots have.
--     at_within              a slot that has an item is one of the slots
--     same_item              one slot has one item
--     item_set_same, ..      what the slots have, and their links, once one of them is written
--     slot_read              a slot that was read
--     gained_at, was_at      with one item more, in a slot that was free: it is that one, or was there
use Rattle.std.proofs.Common.{◌≡◌, ◌≢◌, ℕ, zero, suc, ◌<◌, ◌⊎◌, inl, inr, List, [], ◌∷◌, length, get_or, set}
use Rattle.std.proofs.Common.{Some, sym, ap, subst, ◌∙◌, arith}
use Rattle.std.proofs.lemmas.Bool.{cases_eq}
use Rattle.std.proofs.lemmas.List.{get_or-set_same, get_or-set_other, get_or_read}
use Rattle.std.proofs.lemmas.Option.{none-some, same_Some}
use Rattle.tdl_agenda.specs.declared.items.Item.{Item}
use Rattle.tdl_agenda.specs.declared.chains.Slot.{Slot}
use Rattle.tdl_agenda.specs.Slots.{empty, item_at, next_at}
use Rattle.tdl_agenda.specs.inside.Steps.{IsGained}

pub at_within : (slots : List Slot) (j : ℕ) (x : Item) → item_at slots j ≡ Some x → j < length slots
at_within [] j x h = absurd (none-some x h)
at_within (s ∷ slots) zero x h = omega arith
at_within (s ∷ slots) (suc j) x h = let more = at_within slots j x h in omega arith

pub same_item : (slots : List Slot) (j : ℕ) (x y : Item) → item_at slots j ≡ Some x → item_at slots j ≡ Some y → x ≡ y
same_item slots j x y h k = same_Some x y (sym h ∙ k)

pub item_set_same : (slots : List Slot) (i : ℕ) (s : Slot) → i < length slots → item_at (set slots i s) i ≡ s.item
item_set_same slots i s h = ap (λ (t : Slot). t.item) (get_or-set_same slots i s empty h)

pub item_set_other : (slots : List Slot) (i j : ℕ) (s : Slot) → j ≢ i → item_at (set slots i s) j ≡ item_at slots j
item_set_other slots i j s h = ap (λ (t : Slot). t.item) (get_or-set_other slots i j s empty h)

pub next_set_same : (slots : List Slot) (i : ℕ) (s : Slot) → i < length slots → next_at (set slots i s) i ≡ s.next
next_set_same slots i s h = ap (λ (t : Slot). t.next) (get_or-set_same slots i s empty h)

pub next_set_other : (slots : List Slot) (i j : ℕ) (s : Slot) → j ≢ i → next_at (set slots i s) j ≡ next_at slots j
next_set_other slots i j s h = ap (λ (t : Slot). t.next) (get_or-set_other slots i j s empty h)

pub slot_read : (slots : List Slot) (i : ℕ) (s : Slot) → i < length slots → s ≡ get_or slots i s → s ≡ get_or slots i empty
slot_read slots i s h read = get_or_read slots i s h read empty

pub gained_at : {old new : List Slot} {f : ℕ} {x : Item} (g : IsGained old new f x) (j : ℕ) (y : Item) → item_at new j ≡ Some y
    → ((j ≡ f) × (x ≡ y)) ⊎ ((j ≢ f) × (item_at old j ≡ Some y))
gained_at {old} {new} {f} {x} g j y h = elim (cases_eq j f) [
  | inl same ↦ inl (same, same_item new f x y g.here (subst (λ i. item_at new i ≡ Some y) same h))
  | inr apart ↦ inr (apart, sym (g.others j apart) ∙ h)
]

pub was_at : {old new : List Slot} {f : ℕ} {x : Item} (g : IsGained old new f x) (j : ℕ) (y : Item) → item_at old j ≡ Some y
    → (j ≢ f) × (item_at new j ≡ Some y)
was_at {old} {new} {f} {x} g j y h =
    let apart : j ≢ f = λ same. none-some y (sym g.was_free ∙ subst (λ i. item_at old i ≡ Some y) same h) in
    (apart, g.others j apart ∙ h)
