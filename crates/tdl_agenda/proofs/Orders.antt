-- The items of slots, in order.
--     All-inserted, inserted-All     what holds of an item and of each other holds of each, and the other way
--     IsSorted-inserted              sorted items stay sorted
--     from_first                     none is before a time that the first is not before
--     All-in_order, in_order-All     what holds of the item of each slot
--     same_order                     slots with the same items
--     gained_order                   an item more in a slot that was free
--     lost_order                     the lowest item less
--     with_free                      a free slot more
--     none_left, nothing_in_order    no items
use Rattle.std.proofs.Common.{◌≡◌, ◌≢◌, ℕ, zero, suc, ◌+◌, ◌⊎◌, inl, inr, Bool, true, false, List, [], ◌∷◌, ◌++◌, length, slice_get}
use Rattle.std.proofs.Common.{Option, Some, None, refl, sym, ap, ap₂, subst, ◌∙◌, arith, if◌then◌else◌}
use Rattle.std.specs.List.{AllByRecursion}
use Rattle.std.proofs.lemmas.Option.{none-some, same_Some}
use Rattle.tdl_fraction.specs.Rational.{Rational, ◌≤ℚ◌}
use Rattle.tdl_fraction.proofs.Order.{≤ℚ_trans}
use Rattle.tdl_order.proofs.EachItem.{All-weaker}
use Rattle.tdl_agenda.specs.declared.items.Item.{Item}
use Rattle.tdl_agenda.specs.declared.chains.Slot.{Slot}
use Rattle.tdl_agenda.specs.Agenda.{is_below, IsSorted, inserted}
use Rattle.tdl_agenda.specs.Slots.{in_order, item_at, with_item}
use Rattle.tdl_agenda.specs.inside.Steps.{ApartFrom, IsBelowAll, IsGained}
use Rattle.tdl_agenda.proofs.Turns.{not_later, not_above, below_or_above, below_trans}

abbrev AllApart : Item → List Item → Type 0
AllApart item items = AllByRecursion (λ other. other.order ≢ item.order) items

-- ---- a list with an item more
pub All-inserted : (P : Item → Type 0) (item : Item) (items : List Item) → P item → AllByRecursion P items → AllByRecursion P (inserted item items)
All-inserted P item [] p h = (p, tt)
All-inserted P item (x ∷ xs) p h = by (is_below item x) (All-inserted P item xs p h.1)
  where
    by : (b : Bool) → AllByRecursion P (inserted item xs) → AllByRecursion P (if b then item ∷ x ∷ xs else x ∷ inserted item xs)
    by true more = (p, h)
    by false more = (h.0, more)

pub inserted-All : (P : Item → Type 0) (item : Item) (items : List Item) → AllByRecursion P (inserted item items) → P item × AllByRecursion P items
inserted-All P item [] h = (h.0, tt)
inserted-All P item (x ∷ xs) h = by (is_below item x) (inserted-All P item xs) h
  where
    by : (b : Bool) → (AllByRecursion P (inserted item xs) → P item × AllByRecursion P xs)
        → AllByRecursion P (if b then item ∷ x ∷ xs else x ∷ inserted item xs) → P item × AllByRecursion P (x ∷ xs)
    by true back k = (k.0, k.1)
    by false back k = let more = back k.1 in (more.0, (k.0, more.1))

pub length-inserted : (item : Item) (items : List Item) → length (inserted item items) ≡ length items + 1
length-inserted item [] = refl
length-inserted item (x ∷ xs) = by (is_below item x) (length-inserted item xs)
  where
    by : (b : Bool) → length (inserted item xs) ≡ length xs + 1 → length (if b then item ∷ x ∷ xs else x ∷ inserted item xs) ≡ length (x ∷ xs) + 1
    by true e = omega arith
    by false e = omega arith

pub IsSorted-inserted : (item : Item) (items : List Item) → AllApart item items → IsSorted items → IsSorted (inserted item items)
IsSorted-inserted item [] apart s = (tt, tt)
IsSorted-inserted item (x ∷ xs) apart s = by (is_below item x) refl (IsSorted-inserted item xs apart.1 s.1)
  where
    by : (b : Bool) → is_below item x ≡ b → IsSorted (inserted item xs) → IsSorted (if b then item ∷ x ∷ xs else x ∷ inserted item xs)
    by true e more =
        let above = All-weaker (λ y. is_below x y ≡ true) (λ y. is_below item y ≡ true) (λ y. below_trans item x y e) xs s.0 in
        ((e, above), s)
    by false e more = (All-inserted (λ y. is_below x y ≡ true) item xs (below_or_above item x apart.0 e) s.0, more)

inserted_swap : (x y : Item) (items : List Item) → is_below x y ≡ true → inserted x (inserted y items) ≡ inserted y (inserted x items)
inserted_swap x y [] h = let no_less = not_above x y h in rw (h, no_less) refl
inserted_swap x y (z ∷ zs) h = by (is_below y z) refl (is_below x z) refl (inserted_swap x y zs h)
  where
    not_less : is_below y x ≡ false
    not_less = not_above x y h

    by : (b : Bool) → is_below y z ≡ b → (c : Bool) → is_below x z ≡ c → inserted x (inserted y zs) ≡ inserted y (inserted x zs)
        → inserted x (inserted y (z ∷ zs)) ≡ inserted y (inserted x (z ∷ zs))
    by true e c f more =
        let below = below_trans x y z h e in
        simp (e, below, h, not_less)
    by false e true f more = simp (e, f, not_less)
    by false e false f more = simp (e, f) (ap (λ (l : List Item). z ∷ l) more)

inserted_front : (x : Item) (items : List Item) → AllByRecursion (λ y. is_below x y ≡ true) items → inserted x items ≡ x ∷ items
inserted_front x [] h = refl
inserted_front x (y ∷ ys) h = rw h.0 refl

pub from_first : (t : Rational) (first : Item) (items : List Item) → slice_get items 0 ≡ Some first → IsSorted items → t ≤ℚ first.time
    → AllByRecursion (λ item. t ≤ℚ item.time) items
from_first t first [] is s from = tt
from_first t first (x ∷ xs) is s from =
    let begins : t ≤ℚ x.time = subst (λ (y : Item). t ≤ℚ y.time) (sym (same_Some x first is)) from in
    (begins, All-weaker (λ y. is_below x y ≡ true) (λ y. t ≤ℚ y.time) (λ y below. ≤ℚ_trans begins (not_later x y below)) xs s.0)

-- ---- what holds of each
All-with : (P : Item → Type 0) (o : Option Item) (items : List Item) → ((x : Item) → o ≡ Some x → P x) → AllByRecursion P items
    → AllByRecursion P (with_item o items)
All-with P None items p h = h
All-with P (Some x) items p h = All-inserted P x items (p x refl) h

with-All : (P : Item → Type 0) (o : Option Item) (items : List Item) → AllByRecursion P (with_item o items) → AllByRecursion P items
with-All P None items h = h
with-All P (Some x) items h = (inserted-All P x items h).1

pub All-in_order : (P : Item → Type 0) (slots : List Slot) → ((j : ℕ) (x : Item) → item_at slots j ≡ Some x → P x) → AllByRecursion P (in_order slots)
All-in_order P [] p = tt
All-in_order P (s ∷ slots) p = All-with P s.item (in_order slots) (λ x e. p 0 x e) (All-in_order P slots (λ j x e. p (suc j) x e))

pub in_order-All : (P : Item → Type 0) (slots : List Slot) → AllByRecursion P (in_order slots) → (j : ℕ) (x : Item) → item_at slots j ≡ Some x → P x
in_order-All P [] h j x e = absurd (none-some x e)
in_order-All P (s ∷ slots) h zero x e = (inserted-All P x (in_order slots) (subst (λ (o : Option Item). AllByRecursion P (with_item o (in_order slots))) e h)).0
in_order-All P (s ∷ slots) h (suc j) x e = in_order-All P slots (with-All P s.item (in_order slots) h) j x e

-- ---- slots with an item more or less
pub same_order : (one other : List Slot) → length one ≡ length other → ((j : ℕ) → item_at one j ≡ item_at other j) → in_order one ≡ in_order other
same_order [] [] long same = refl
same_order [] (t ∷ other) long same = absurd (omega arith)
same_order (s ∷ one) [] long same = absurd (omega arith)
same_order (s ∷ one) (t ∷ other) long same = ap₂ with_item (same 0) (same_order one other (omega arith) (λ j. same (suc j)))

with-inserted : (o : Option Item) (x : Item) (items : List Item) → ((y : Item) → o ≡ Some y → (is_below x y ≡ true) ⊎ (is_below y x ≡ true))
    → with_item o (inserted x items) ≡ inserted x (with_item o items)
with-inserted None x items h = refl
with-inserted (Some y) x items h = elim (h y refl) [
  | inl below ↦ sym (inserted_swap x y items below)
  | inr above ↦ inserted_swap y x items above
]

gained_by : (old new : List Slot) (f : ℕ) (x : Item) → length new ≡ length old → IsGained old new f x
    → ((j : ℕ) (y : Item) → item_at old j ≡ Some y → (is_below x y ≡ true) ⊎ (is_below y x ≡ true))
    → in_order new ≡ inserted x (in_order old)
gained_by old [] f x long g h = absurd (none-some x g.here)
gained_by [] (t ∷ new) f x long g h = absurd (omega arith)
gained_by (s ∷ old) (t ∷ new) zero x long g h =
    let rest : in_order new ≡ in_order old = same_order new old (omega arith) (λ j. g.others (suc j) (omega arith)) in
    let free : s.item ≡ None = g.was_free in
    let taken : t.item ≡ Some x = g.here in
    ap₂ with_item taken rest ∙ ap (λ (o : Option Item). inserted x (with_item o (in_order old))) (sym free)
gained_by (s ∷ old) (t ∷ new) (suc f) x long g h =
    let less : IsGained old new f x = record { was_free = g.was_free; here = g.here; others = λ j apart. g.others (suc j) (omega arith) } in
    let rest = gained_by old new f x (omega arith) less (λ j y e. h (suc j) y e) in
    let same : t.item ≡ s.item = g.others 0 (omega arith) in
    ap₂ with_item same rest ∙ with-inserted s.item x (in_order old) (λ y e. h 0 y e)

pub gained_order : (old new : List Slot) (f : ℕ) (x : Item) → length new ≡ length old → IsGained old new f x → ApartFrom old x
    → in_order new ≡ inserted x (in_order old)
gained_order old new f x long g apart = gained_by old new f x long g ordered
  where
    by : (y : Item) → y.order ≢ x.order → (b : Bool) → is_below x y ≡ b → (is_below x y ≡ true) ⊎ (is_below y x ≡ true)
    by y other true e = inl e
    by y other false e = inr (below_or_above x y other e)

    ordered : (j : ℕ) (y : Item) → item_at old j ≡ Some y → (is_below x y ≡ true) ⊎ (is_below y x ≡ true)
    ordered j y e = by y (apart j y e) (is_below x y) refl

pub lost_order : (old new : List Slot) (i : ℕ) (x : Item) → length old ≡ length new → IsGained new old i x → IsBelowAll new x → in_order old ≡ x ∷ in_order new
lost_order old new i x long g below =
    gained_by new old i x long g (λ j y e. inl (below j y e)) ∙ inserted_front x (in_order new) (All-in_order (λ y. is_below x y ≡ true) new below)

pub with_free : (slots : List Slot) (next : Option ℕ) → in_order (slots ++ record { item = None; next = next } ∷ []) ≡ in_order slots
with_free [] next = refl
with_free (s ∷ slots) next = ap (with_item s.item) (with_free slots next)

pub none_left : (slots : List Slot) → in_order slots ≡ [] → (j : ℕ) (x : Item) → item_at slots j ≡ Some x → ⊥
none_left slots e = in_order-All (λ x. ⊥) slots (subst (AllByRecursion (λ (x : Item). ⊥)) (sym e) tt)

pub nothing_in_order : (slots : List Slot) → ((j : ℕ) (x : Item) → item_at slots j ≡ Some x → ⊥) → in_order slots ≡ []
nothing_in_order slots h = by (in_order slots) (All-in_order (λ x. ⊥) slots h)
  where
    by : (items : List Item) → AllByRecursion (λ x. ⊥) items → items ≡ []
    by [] k = refl
    by (x ∷ xs) k = absurd k.0
