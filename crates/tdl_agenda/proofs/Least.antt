-- The first of all items.
--     some_item, taken_from          a slot that has an item
--     not_above-*                    slots whose items are not above those of others
--     first_new, first_stays, ..     once an item more is there
--     first_same                     the same items
--     IsScanned, scanned_more        the lowest of the heads that were looked at, and of one more
--     lowest_of, none_of             the lowest head: the first of the items that come after a low one
--     lowest_first                   the lowest head is the first of all
--     stays_in_chain                 so is the head of the chain of the one that was taken out, where it is of the same cycle
--     least_from, first_order        the first is below all others, and is the first in order
use Rattle.std.proofs.Common.{◌≡◌, ℕ, ◌+◌, ◌%◌, ◌<◌, ◌⊎◌, inl, inr, true, false, List, [], ◌∷◌, length, get_or, set}
use Rattle.std.proofs.Common.{Option, Some, None, IsSome, refl, sym, ap, subst, ◌∙◌, arith, ℤ, ◌≤ℤ◌}
use Rattle.std.specs.Prelude.{unsigned_abs}
use Rattle.std.proofs.lemmas.Int.{ints}
use Rattle.std.proofs.lemmas.Bool.{cases_eq, false≢true, false_from_ne_true}
use Rattle.std.proofs.lemmas.Option.{none-some}
use Rattle.tdl_fraction.specs.Rational.{floor}
use Rattle.tdl_fraction.proofs.Rounding.{floor_monotone}
use Rattle.tdl_agenda.specs.declared.items.Item.{Item}
use Rattle.tdl_agenda.specs.declared.chains.Slot.{Slot}
use Rattle.tdl_agenda.specs.Agenda.{is_below}
use Rattle.tdl_agenda.specs.Slots.{chain_of, in_order, item_at}
use Rattle.tdl_agenda.specs.Linked.{IsBehind, IsFirst, IsLeast, IsLinked, IsNext, Leads}
use Rattle.tdl_agenda.specs.inside.Steps.{ApartFrom, HasItem, HaveItems, IsBelowAll, IsGained, IsLowest, IsTaken, NotAbove}
use Rattle.tdl_agenda.proofs.Turns.{below_or_above, below_trans, not_above_trans, not_below_itself, not_later}
use Rattle.tdl_agenda.proofs.Slots.{same_item, gained_at, was_at}
use Rattle.tdl_agenda.proofs.Orders.{none_left, nothing_in_order}
use Rattle.tdl_agenda.proofs.Keeping.{chain_below, out_order}

pub some_item : (o : Option Item) → IsSome o → (x : Item) × (o ≡ Some x)
some_item None h = absurd (false≢true h)
some_item (Some x) h = (x, refl)

pub taken_from : (slots : List Slot) (i : ℕ) (x : Item) → item_at slots i ≡ Some x → IsTaken slots i
taken_from slots i x e = subst (λ (o : Option Item). IsSome o) (sym e) refl

-- ---- slots whose items are not above those of others
pub not_above-refl : (slots : List Slot) (at : Option ℕ) → NotAbove slots at at
not_above-refl slots None = tt
not_above-refl slots (Some i) = λ x y e h. subst (λ z. is_below z x ≡ false) (same_item slots i x y e h) (not_below_itself x)

pub not_above-chain : (slots : List Slot) (one two three : Option ℕ) → HasItem slots two → NotAbove slots one two → NotAbove slots two three
    → NotAbove slots one three
not_above-chain slots one two None has h k = tt
not_above-chain slots one None (Some c) has h k = absurd k
not_above-chain slots None (Some b) (Some c) has h k = absurd h
not_above-chain slots (Some a) (Some b) (Some c) has h k = λ x z e g.
    let middle = some_item (item_at slots b) has in
    not_above_trans x middle.0 z (h x middle.0 e middle.1) (k middle.0 z middle.1 g)

pub not_above-lower : (slots : List Slot) (i j : ℕ) (x y : Item) → item_at slots i ≡ Some x → item_at slots j ≡ Some y → is_below y x ≡ false
    → NotAbove slots (Some i) (Some j)
not_above-lower slots i j x y e h low = λ v w g k.
    subst (λ z. is_below z v ≡ false) (same_item slots j y w h k) (subst (λ z. is_below y z ≡ false) (same_item slots i x v e g) low)

-- ---- an item more
pub first_new : (old new : List Slot) (f : ℕ) (x : Item) → in_order old ≡ [] → IsGained old new f x → IsFirst new (Some f)
first_new old new f x none g = record {
  item = x;
  there = g.here;
  least = λ j y e. elim (gained_at g j y e) [ inl here ↦ inl here.0 | inr there ↦ absurd (none_left old none j y there.1) ];
}

pub first_stays : (old new : List Slot) (i f : ℕ) (x w : Item) → IsLeast old i → item_at old i ≡ Some w → is_below w x ≡ true → IsGained old new f x
    → IsFirst new (Some i)
first_stays old new i f x w l is below g =
    let same = same_item old i w l.item is l.there in
    record {
      item = l.item;
      there = (was_at g i l.item l.there).1;
      least = λ j y e. elim (gained_at g j y e) [
        | inl here ↦ inr (subst (λ z. is_below l.item z ≡ true) here.1 (subst (λ z. is_below z x ≡ true) same below))
        | inr there ↦ l.least j y there.1
      ];
    }

pub first_before : (old new : List Slot) (i f : ℕ) (x w : Item) → IsLeast old i → item_at old i ≡ Some w → is_below w x ≡ false → ApartFrom old x
    → IsGained old new f x → IsFirst new (Some f)
first_before old new i f x w l is not_below apart g = record {
  item = x;
  there = g.here;
  least = λ j y e. elim (gained_at g j y e) [ inl here ↦ inl here.0 | inr there ↦ inr (above j y there.1 (l.least j y there.1)) ];
}
  where
    same : w ≡ l.item
    same = same_item old i w l.item is l.there

    below : is_below x l.item ≡ true
    below = subst (λ z. is_below x z ≡ true) same (below_or_above w x (λ e. apart i w is (sym e)) not_below)

    above : (j : ℕ) (y : Item) → item_at old j ≡ Some y → (j ≡ i) ⊎ (is_below l.item y ≡ true) → is_below x y ≡ true
    above j y e (inl here) = subst (λ z. is_below x z ≡ true) (same_item old i l.item y l.there (subst (λ m. item_at old m ≡ Some y) here e)) below
    above j y e (inr lower) = below_trans x l.item y below lower

-- ---- the same items
pub first_same : (old new : List Slot) (at : Option ℕ) → in_order new ≡ in_order old → ((j : ℕ) → item_at new j ≡ item_at old j) → IsFirst old at
    → IsFirst new at
first_same old new None order same l = order ∙ l
first_same old new (Some i) order same l = record {
  item = l.item;
  there = same i ∙ l.there;
  least = λ j y e. l.least j y (sym (same j) ∙ e);
}

-- ---- the lowest of the heads
pub record IsScanned (slots : List Slot) (heads : List (Option ℕ)) (count : ℕ) (at : Option ℕ) : Type 0 where
  pub has : HasItem slots at
  pub among : (at ≡ None) ⊎ ((k : ℕ) × (k < length heads) × (at ≡ get_or heads k None))
  pub low : (k : ℕ) → k < count → NotAbove slots at (get_or heads k None)

pub scanned_more : (slots : List Slot) (heads : List (Option ℕ)) (count : ℕ) (at head now : Option ℕ) → HaveItems slots heads → count < length heads
    → head ≡ get_or heads count None → IsScanned slots heads count at → (now ≡ at) ⊎ (now ≡ head) → NotAbove slots now at → NotAbove slots now head
    → IsScanned slots heads (count + 1) now
scanned_more slots heads count at head now have within is s either one other = record {
  has = has either;
  among = among either;
  low = low;
}
  where
    has : (now ≡ at) ⊎ (now ≡ head) → HasItem slots now
    has (inl e) = subst (HasItem slots) (sym e) s.has
    has (inr e) = subst (HasItem slots) (sym (e ∙ is)) (have count within)

    among : (now ≡ at) ⊎ (now ≡ head) → (now ≡ None) ⊎ ((k : ℕ) × (k < length heads) × (now ≡ get_or heads k None))
    among (inl e) = subst (λ (o : Option ℕ). (o ≡ None) ⊎ ((k : ℕ) × (k < length heads) × (o ≡ get_or heads k None))) (sym e) s.among
    among (inr e) = inr (count, within, e ∙ is)

    low : (k : ℕ) → k < count + 1 → NotAbove slots now (get_or heads k None)
    low k h = elim (cases_eq k count) [
      | inl same ↦ subst (λ m. NotAbove slots now (get_or heads m None)) (sym same) (subst (NotAbove slots now) is other)
      | inr apart ↦ not_above-chain slots now at (get_or heads k None) s.has one (s.low k (omega arith))
    ]

-- ---- the first of the items that come after a low one
pub record IsFirstBehind (slots : List Slot) (heads : List (Option ℕ)) (low : Option Item) (i : ℕ) : Type 0 where
  pub item : Item
  pub there : item_at slots i ≡ Some item
  pub behind : IsBehind low item
  pub head : get_or heads (chain_of item) None ≡ Some i
  pub first : (j : ℕ) (y : Item) → item_at slots j ≡ Some y → IsBehind low y → (j ≡ i) ⊎ (is_below item y ≡ true)

-- the items of `now` are those of the slots, of all that come after the low one
module _ (slots now : List Slot) (heads : List (Option ℕ)) (low : Option Item) (long : length heads ≡ 64)
    (apart : (i j : ℕ) (x y : Item) → item_at slots i ≡ Some x → item_at slots j ≡ Some y → x.order ≡ y.order → i ≡ j)
    (lead : (k : ℕ) → k < 64 → Leads slots k low (get_or heads k None))
    (same : (j : ℕ) (y : Item) → item_at slots j ≡ Some y → IsBehind low y → item_at now j ≡ Some y) where
  none_at : (at : Option ℕ) (y : Item) (j : ℕ) → item_at slots j ≡ Some y → IsBehind low y → Leads slots (chain_of y) low at → NotAbove now None at → ⊥
  none_at None y j e b l h = l j y e refl b
  none_at (Some i) y j e b l h = h

  pub none_of : IsLowest now heads None → (j : ℕ) (y : Item) → item_at slots j ≡ Some y → IsBehind low y → ⊥
  none_of lowest j y e b =
      let bound = chain_below y in
      none_at (get_or heads (chain_of y) None) y j e b (lead (chain_of y) bound) (lowest.low (chain_of y) (omega arith))

  lower_head : (i h : ℕ) (x z : Item) → item_at slots i ≡ Some x → item_at slots h ≡ Some z → is_below z x ≡ false → (h ≡ i) ⊎ (is_below x z ≡ true)
  lower_head i h x z e g not_below = elim (cases_eq x.order z.order) [
    | inl one ↦ inl (apart h i z x g e (sym one))
    | inr two ↦ inr (below_or_above z x two not_below)
  ]

  first_at : (at : Option ℕ) (i j : ℕ) (x y : Item) → item_at slots i ≡ Some x → IsBehind low x → item_at slots j ≡ Some y → IsBehind low y
      → Leads slots (chain_of y) low at → NotAbove now (Some i) at → (j ≡ i) ⊎ (is_below x y ≡ true)
  first_at None i j x y e b g c l h = absurd (l j y g refl c)
  first_at (Some a) i j x y e b g c l h =
      let not_below = h x l.item (same i x e b) (same a l.item l.there l.behind) in
      by (l.first j y g refl c) (lower_head i a x l.item e l.there not_below)
    where
      by : (j ≡ a) ⊎ (is_below l.item y ≡ true) → (a ≡ i) ⊎ (is_below x l.item ≡ true) → (j ≡ i) ⊎ (is_below x y ≡ true)
      by (inl one) (inl other) = inl (one ∙ other)
      by (inl one) (inr other) =
          inr (subst (λ z. is_below x z ≡ true) (same_item slots a l.item y l.there (subst (λ m. item_at slots m ≡ Some y) one g)) other)
      by (inr one) (inl other) =
          inr (subst (λ z. is_below z y ≡ true) (same_item slots i l.item x (subst (λ m. item_at slots m ≡ Some l.item) other l.there) e) one)
      by (inr one) (inr other) = inr (below_trans x l.item y other one)

  pub lowest_of : (i : ℕ) → IsLowest now heads (Some i) → IsFirstBehind slots heads low i
  lowest_of i lowest = by lowest.among
    where
      from : (k : ℕ) → get_or heads k None ≡ Some i → IsNext slots k low i → IsFirstBehind slots heads low i
      from k is n = record {
        item = n.item;
        there = n.there;
        behind = n.behind;
        head = ap (λ m. get_or heads m None) n.chain ∙ is;
        first = λ j y e b.
            let bound = chain_below y in
            first_at (get_or heads (chain_of y) None) i j n.item y n.there n.behind e b (lead (chain_of y) bound) (lowest.low (chain_of y) (omega arith));
      }

      by : (Some i ≡ None) ⊎ ((k : ℕ) × (k < length heads) × (Some i ≡ get_or heads k None)) → IsFirstBehind slots heads low i
      by (inl none) = absurd (none-some i (sym none))
      by (inr one) =
          let within = one.1 in
          from one.0 (sym one.2) (subst (Leads slots one.0 low) (sym one.2) (lead one.0 (omega arith)))

pub lowest_first : {slots : List Slot} {heads : List (Option ℕ)} {free : Option ℕ} {len : ℕ} (l : IsLinked slots heads free len) (at : Option ℕ)
    → IsLowest slots heads at → IsFirst slots at
lowest_first {slots} {heads} l None lowest =
    nothing_in_order slots (λ j x e. none_of slots slots heads None l.chains l.apart l.firsts (λ i y h b. h) lowest j x e tt)
lowest_first {slots} {heads} l (Some i) lowest =
    let first = lowest_of slots slots heads None l.chains l.apart l.firsts (λ i y h b. h) i lowest in
    record { item = first.item; there = first.there; least = λ j y e. first.first j y e tt }

-- ---- the head of the chain of the one that was taken out
neither_above : (a b : ℤ) → a ≤ℤ b → b ≤ℤ a → a ≡ b
neither_above a b h k = omega (arith, ints)

same_chain : (x y : Item) → floor x.time ≡ floor y.time → chain_of x ≡ chain_of y
unfolding chain_of
same_chain x y e = ap (λ n. unsigned_abs n % 64) e

pub stays_in_chain : {slots : List Slot} {heads : List (Option ℕ)} {free : Option ℕ} {len : ℕ} (l : IsLinked slots heads free len) (n : ℕ) (x z : Item)
    → get_or heads (chain_of x) None ≡ Some n → IsBelowAll slots x → item_at slots n ≡ Some z → floor z.time ≡ floor x.time → IsFirst slots (Some n)
stays_in_chain {slots} {heads} l n x z is below there cycle = record {
  item = z;
  there = there;
  least = λ j y e. by j y e (cases_eq (chain_of y) (chain_of x));
}
  where
    next : IsNext slots (chain_of x) None n
    next = subst (Leads slots (chain_of x) None) is (l.firsts (chain_of x) (chain_below x))

    item : next.item ≡ z
    item = same_item slots n next.item z next.there there

    other : (j : ℕ) (y : Item) → item_at slots j ≡ Some y → (chain_of y ≡ chain_of x → ⊥) → is_below y z ≡ true → ⊥
    other j y e apart under =
        let from = floor_monotone (not_later x y (below j y e)) in
        let to = floor_monotone (not_later y z under) in
        let within : floor y.time ≤ℤ floor x.time = subst (λ m. floor y.time ≤ℤ m) cycle to in
        apart (same_chain y x (neither_above (floor y.time) (floor x.time) within from))

    by : (j : ℕ) (y : Item) → item_at slots j ≡ Some y → (chain_of y ≡ chain_of x) ⊎ (chain_of y ≡ chain_of x → ⊥) → (j ≡ n) ⊎ (is_below z y ≡ true)
    by j y e (inl one) = elim (next.first j y e one tt) [
      | inl same ↦ inl same
      | inr lower ↦ inr (subst (λ w. is_below w y ≡ true) item lower)
    ]
    by j y e (inr two) = elim (cases_eq y.order z.order) [
      | inl order ↦ inl (l.apart j n y z e there order)
      | inr orders ↦ inr (below_or_above y z (λ same. orders (sym same)) (false_from_ne_true (is_below y z) (other j y e two)))
    ]

-- ---- the first in order
pub least_from : (slots : List Slot) (at : Option ℕ) (i : ℕ) (x : Item) → IsFirst slots at → at ≡ Some i → item_at slots i ≡ Some x
    → (j : ℕ) (y : Item) → item_at slots j ≡ Some y → (j ≡ i) ⊎ (is_below x y ≡ true)
least_from slots at i x first is there j y e =
    let least : IsLeast slots i = subst (IsFirst slots) is first in
    let same = same_item slots i least.item x least.there there in
    subst (λ z. (j ≡ i) ⊎ (is_below z y ≡ true)) same (least.least j y e)

pub first_order : {slots : List Slot} {heads : List (Option ℕ)} {free : Option ℕ} {len : ℕ} (l : IsLinked slots heads free len)
    (at : Option ℕ) (i : ℕ) (x : Item) → IsFirst slots at → at ≡ Some i → item_at slots i ≡ Some x
    → in_order slots ≡ x ∷ in_order (set slots i (record { item = None; next = free }))
first_order {slots} {heads} {free} {len} l at i x first is there = out_order slots heads free len i x l there (least_from slots at i x first is there)
