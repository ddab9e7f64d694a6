-- Lists whose times rise.
--     is_earlier                         the test by which items are sorted
--     AllFrom, AllBefore                 each item is at t or later, and is before t
--     AllFrom-earlier, AllBefore-later   so too with an earlier, and a later t
--     Rises-append                       one after the other, where none of the second is earlier than one of the first
--     Rises-filter, Rises-map            the items that pass a test, and mapped items
--     Rises-at                           items of one time
--     Rises-from_sorted                  no item is earlier than the one before it
--     sorted_from_Rises                  and so it is in each list that rises
--     falls_at                           some item is earlier than the one before it
use Rattle.std.proofs.Common.{◌≡◌, ℕ, zero, suc, ◌+◌, ◌-◌, ◌≤◌, ◌<◌, Bool, true, false, cond, List, [], ◌∷◌, ◌++◌, map, filter, length, get_or, sym, ap}
use Rattle.std.proofs.Common.{subst, ◌∙◌, arith}
use Rattle.std.proofs.lemmas.Bool.{false≢true}
use Rattle.std.proofs.lemmas.List.{get_or_default}
use Rattle.std.proofs.Math.Numerals.{add-one}
use Rattle.std.specs.List.{AllByRecursion}
use Rattle.std.specs.List.Sorted.{IsSortedBy}
use Rattle.tdl_fraction.specs.Rational.{Rational, lt_ℚ, ◌≤ℚ◌, ◌<ℚ◌}
use Rattle.tdl_fraction.proofs.Over.{lt_ℚ-false}
use Rattle.tdl_fraction.proofs.Order.{≤ℚ_trans, ≤ℚ_from_same, <ℚ-≤ℚ_trans}
use Rattle.tdl_order.specs.TimeOrder.{Rises}
use Rattle.tdl_order.proofs.EachItem.{All-weaker, All-append, All-filter, All-map}

module _ {A : Type 0} (time : A → Rational) where
  abbrev pub is_earlier : A → A → Bool
  is_earlier x y = lt_ℚ (time x) (time y)

  abbrev pub AllFrom : Rational → List A → Type 0
  AllFrom t xs = AllByRecursion (λ x. t ≤ℚ time x) xs

  abbrev pub AllBefore : Rational → List A → Type 0
  AllBefore t xs = AllByRecursion (λ x. time x <ℚ t) xs

  pub AllFrom-earlier : {s t : Rational} → s ≤ℚ t → (xs : List A) → AllFrom t xs → AllFrom s xs
  AllFrom-earlier {s} {t} h = All-weaker (λ x. t ≤ℚ time x) (λ x. s ≤ℚ time x) (λ x from. ≤ℚ_trans h from)

  pub AllBefore-later : {s t : Rational} → s ≤ℚ t → (xs : List A) → AllBefore s xs → AllBefore t xs
  AllBefore-later {s} {t} h = All-weaker (λ x. time x <ℚ s) (λ x. time x <ℚ t) (λ x before. <ℚ-≤ℚ_trans before h)

  pub Rises-append : (xs ys : List A) → Rises time xs → Rises time ys → AllByRecursion (λ x. AllFrom (time x) ys) xs → Rises time (xs ++ ys)
  Rises-append [] ys r s h = s
  Rises-append (x ∷ xs) ys r s h = (All-append (λ y. time x ≤ℚ time y) xs ys r.0 h.0, Rises-append xs ys r.1 s h.1)

  pub Rises-filter : (p : A → Bool) (xs : List A) → Rises time xs → Rises time (filter p xs)
  Rises-filter p [] r = tt
  Rises-filter p (x ∷ xs) r = by (p x) (Rises-filter p xs r.1)
    where
      by : (b : Bool) → Rises time (filter p xs) → Rises time (cond b (x ∷ filter p xs) (filter p xs))
      by true more = (All-filter (λ y. time x ≤ℚ time y) p xs r.0, more)
      by false more = more

  pub Rises-map : {B : Type 0} (f : B → A) (bs : List B) → Rises (λ b. time (f b)) bs → Rises time (map f bs)
  Rises-map f [] r = tt
  Rises-map f (b ∷ bs) r = (All-map (λ y. time (f b) ≤ℚ time y) f bs r.0, Rises-map f bs r.1)

  pub Rises-at : (t : Rational) (xs : List A) → AllByRecursion (λ x. time x ≡ t) xs → Rises time xs
  Rises-at t [] h = tt
  Rises-at t (x ∷ xs) h = (All-weaker (λ y. time y ≡ t) (λ y. time x ≤ℚ time y) (λ y e. ≤ℚ_from_same (h.0 ∙ sym e)) xs h.1, Rises-at t xs h.1)

  -- ---- by places, as a sort tells
  abbrev StepsUp : List A → Type 0
  StepsUp xs = (k : ℕ) (d : A) → suc k < length xs → is_earlier (get_or xs (suc k) d) (get_or xs k d) ≡ false

  rises_by_steps : (xs : List A) → StepsUp xs → Rises time xs
  rises_by_steps [] h = tt
  rises_by_steps (x ∷ []) h = (tt, tt)
  rises_by_steps (x ∷ y ∷ ys) h =
      let rest = rises_by_steps (y ∷ ys) (λ k d lt. h (suc k) d (omega arith)) in
      let first : time x ≤ℚ time y = (lt_ℚ-false (time y) (time x)).0 (h 0 x (omega arith)) in
      ((first, AllFrom-earlier first ys rest.0), rest)

  steps_of_rises : (xs : List A) → Rises time xs → StepsUp xs
  steps_of_rises [] r k d lt = absurd (omega arith)
  steps_of_rises (x ∷ []) r k d lt = absurd (omega arith)
  steps_of_rises (x ∷ y ∷ ys) r zero d lt = (lt_ℚ-false (time y) (time x)).1 r.0.0
  steps_of_rises (x ∷ y ∷ ys) r (suc k) d lt = steps_of_rises (y ∷ ys) r.1 k d (omega arith)

  pub Rises-from_sorted : (xs : List A) → IsSortedBy is_earlier xs → Rises time xs
  Rises-from_sorted xs h = rises_by_steps xs (λ k d lt. rw add-one at (h k d (omega arith) (omega arith)))

  pub sorted_from_Rises : (xs : List A) → Rises time xs → IsSortedBy is_earlier xs
  sorted_from_Rises xs r k d low lt = rw add-one (steps_of_rises xs r k d (omega arith))

  -- a place at which the item is earlier than the one before it
  pub falls_at : (xs : List A) (i : ℕ) (x y : A) → 1 ≤ i → i < length xs → x ≡ get_or xs i x → y ≡ get_or xs (i - 1) y → is_earlier x y ≡ true
      → Rises time xs → ⊥
  falls_at xs i x y low lt here before earlier r =
      let at : i - 1 + 1 ≡ i = omega arith in
      let up = subst (λ n. is_earlier (get_or xs n x) (get_or xs (i - 1) x) ≡ false) at (sorted_from_Rises xs r (i - 1) x (omega arith) (omega arith)) in
      let read : get_or xs (i - 1) x ≡ y = get_or_default xs (i - 1) x y (omega arith) ∙ sym before in
      false≢true (sym up ∙ ap (λ (z : A). is_earlier z (get_or xs (i - 1) x)) (sym here) ∙ ap (is_earlier x) read ∙ earlier)
