-- Items in order, and how many of them pass a test.
--     passing              how many of a list pass
--     passing-in_order     as many as of the slots
--     numbered_ranks       sorted items, each with the number of those below it
--     IsSorted-numbered    sorted items stay sorted when they are numbered
use Rattle.std.proofs.Common.{◌≡◌, ℕ, suc, ◌+◌, ◌<◌, Bool, true, false, List, [], ◌∷◌, map, if◌then◌else◌, Option, Some, None}
use Rattle.std.proofs.Common.{◌⊎◌, inl, inr, refl, ap, ap₂, ◌∙◌, arith}
use Rattle.std.specs.List.{AllByRecursion}
use Rattle.std.proofs.lemmas.Bool.{lt-ltb}
use Rattle.tdl_fraction.specs.Rational.{◌≤ℚ◌, ◌<ℚ◌}
use Rattle.tdl_fraction.proofs.Order.{<ℚ_or_≡}
use Rattle.tdl_order.proofs.EachItem.{All-weaker}
use Rattle.tdl_agenda.specs.declared.items.Item.{Item}
use Rattle.tdl_agenda.specs.declared.chains.Slot.{Slot}
use Rattle.tdl_agenda.specs.Agenda.{is_below, IsSorted, inserted, numbered}
use Rattle.tdl_agenda.specs.Slots.{in_order, with_item}
use Rattle.tdl_agenda.proofs.Turns.{below-earlier, below-same, not_later, not_above, not_below_itself}
use Rattle.tdl_agenda.proofs.Counts.{one_if, counts, counted}

abbrev pub with_order : ℕ → Item → Item
with_order n item = record { time = item.time; order = n; note = item.note }

-- ---- how many pass
abbrev pub passing : (Item → Bool) → List Item → ℕ
passing p [] = 0
passing p (x ∷ xs) = one_if (p x) + passing p xs

passing-inserted : (p : Item → Bool) (x : Item) (items : List Item) → passing p (inserted x items) ≡ one_if (p x) + passing p items
passing-inserted p x [] = refl
passing-inserted p x (y ∷ ys) = by (is_below x y) (passing-inserted p x ys)
  where
    by : (b : Bool) → passing p (inserted x ys) ≡ one_if (p x) + passing p ys
        → passing p (if b then x ∷ y ∷ ys else y ∷ inserted x ys) ≡ one_if (p x) + passing p (y ∷ ys)
    by true e = refl
    by false e = omega arith

passing-with : (p : Item → Bool) (o : Option Item) (items : List Item) → passing p (with_item o items) ≡ counts p o + passing p items
passing-with p None items = omega arith
passing-with p (Some x) items = passing-inserted p x items

pub passing-in_order : (p : Item → Bool) (slots : List Slot) → passing p (in_order slots) ≡ counted p slots
passing-in_order p [] = refl
passing-in_order p (s ∷ slots) = passing-with p s.item (in_order slots) ∙ ap (λ n. counts p s.item + n) (passing-in_order p slots)

none_passes : (y : Item) (items : List Item) → AllByRecursion (λ z. is_below y z ≡ true) items → passing (λ z. is_below z y) items ≡ 0
none_passes y [] h = refl
none_passes y (x ∷ xs) h =
    let one : one_if (is_below x y) ≡ 0 = ap one_if (not_above y x h.0) in
    let rest = none_passes y xs h.1 in
    omega arith

-- ---- sorted items, numbered
abbrev pub HasRank : (Item → ℕ) → ℕ → List Item → Item → Type 0
HasRank rank n items z = rank z ≡ n + passing (λ w. is_below w z) items

ranks_on : (rank : Item → ℕ) (n : ℕ) (y : Item) (ys items : List Item) → AllByRecursion (λ z. is_below y z ≡ true) items
    → AllByRecursion (HasRank rank n (y ∷ ys)) items → AllByRecursion (HasRank rank (suc n) ys) items
ranks_on rank n y ys [] above h = tt
ranks_on rank n y ys (z ∷ zs) above h =
    let one : one_if (is_below y z) ≡ 1 = ap one_if above.0 in
    let here = h.0 in
    (omega (arith, one, here), ranks_on rank n y ys zs above.1 h.1)

pub numbered_ranks : (rank : Item → ℕ) (n : ℕ) (items : List Item) → IsSorted items → AllByRecursion (HasRank rank n items) items
    → map (λ z. with_order (rank z) z) items ≡ numbered n items
numbered_ranks rank n [] s h = refl
numbered_ranks rank n (y ∷ ys) s h =
    let itself : one_if (is_below y y) ≡ 0 = ap one_if (not_below_itself y) in
    let none = none_passes y ys s.0 in
    let here = h.0 in
    let first : rank y ≡ n = omega (arith, itself, none, here) in
    ap₂ (λ (m : ℕ) (l : List Item). with_order m y ∷ l) first (numbered_ranks rank (suc n) ys s.1 (ranks_on rank n y ys ys s.0 h.1))

below-numbered : (item : Item) (n : ℕ) (items : List Item) → item.order < n → AllByRecursion (λ other. item.time ≤ℚ other.time) items
    → AllByRecursion (λ other. is_below item other ≡ true) (numbered n items)
below-numbered item n [] low h = tt
below-numbered item n (x ∷ xs) low h = (first (<ℚ_or_≡ h.0), below-numbered item (suc n) xs (omega arith) h.1)
  where
    first : (item.time <ℚ x.time) ⊎ (item.time ≡ x.time) → is_below item (with_order n x) ≡ true
    first (inl earlier) = below-earlier item (with_order n x) earlier
    first (inr same) = below-same item (with_order n x) same ∙ lt-ltb item.order n low

pub IsSorted-numbered : (n : ℕ) (items : List Item) → IsSorted items → IsSorted (numbered n items)
IsSorted-numbered n [] s = tt
IsSorted-numbered n (x ∷ xs) s =
    let later = All-weaker (λ y. is_below x y ≡ true) (λ y. x.time ≤ℚ y.time) (λ y below. not_later x y below) xs s.0 in
    (below-numbered (with_order n x) (suc n) xs (omega arith) later, IsSorted-numbered (suc n) xs s.1)
