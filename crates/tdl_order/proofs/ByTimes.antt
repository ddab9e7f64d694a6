-- The items of each time: a list that rises is told by them.
--     is_at, at                   the item's time is t; the items at t, in their order
--     same_time, time_is_same     what the test decides
--     at-by_time                  the order keeps the items of each time in their order
--     same_by_times               lists that rise are equal where they have the same items at each time, in the same order
--     same_by_items               so too where they have them at the time of each item
--     by_time-sorted              what a stable sort by the times makes is the order
--     IsStrictWeakOrder-earlier   being earlier is an order in which any two compare
--     by_time-from_sort_by        what `sort_by` leaves, where each call tells which of two is earlier
use Rattle.std.proofs.Common.{◌≡◌, Bool, true, false, cond, not, ◌&&◌, nat_eq, List, [], ◌∷◌, filter, Ordering, is_lt, refl, sym, ap, subst, ◌∙◌}
use Rattle.std.specs.List.Sorted.{IsSortedBy, IsStableBy, ties}
use Rattle.std.specs.Ordering.{int_eq}
use Rattle.std.specs.Cmp.{IsStrictWeakOrder}
use Rattle.std.specs.Fn.{Called, ComparesAs}
use Rattle.std.proofs.lemmas.Fn.{always_returns_same}
use denote.Ref.{Bor}
use denote.Param.Members.{Mut}
use Rattle.std.proofs.lemmas.Bool.{and_parts, and_from, eqb-true, eq-eqb, false≢true}
use Rattle.std.proofs.lemmas.Bool.Decides.{Decides-int_eq}
use Rattle.std.proofs.lemmas.Cmp.{int_eq_equiv}
use Rattle.tdl_fraction.specs.Rational.{Rational, lt_ℚ, ◌≤ℚ◌}
use Rattle.tdl_fraction.specs.Same.{same_ℚ}
use Rattle.tdl_fraction.proofs.Over.{same_parts, lt_ℚ-true, lt_ℚ-false}
use Rattle.tdl_fraction.proofs.Order.{≤ℚ_refl, ≤ℚ_trans, ≤ℚ_antisymm, ≤ℚ_from_same, ≤ℚ_from_<ℚ}
use Rattle.tdl_order.specs.TimeOrder.{by_time, Rises}
use Rattle.tdl_order.proofs.EachItem.{All-weaker, All-filter, filter_passes}
use Rattle.tdl_order.proofs.Rising.{is_earlier, AllFrom, Rises-at, Rises-from_sorted}
use Rattle.tdl_order.proofs.InOrder.{by_time-rises, Rises-by_time, filter-by_time}

same_numbers : (p q : Rational) → same_ℚ p q ≡ true → p ≡ q
same_numbers p q e =
    let h = and_parts _ _ e in
    same_parts p q ((Decides-int_eq p.num q.num).0 h.0) (eqb-true p.den q.den h.1)

same_itself : (x : Rational) → same_ℚ x x ≡ true
same_itself x = and_from (int_eq x.num x.num) (nat_eq x.den x.den) (int_eq_equiv.refl x.num) (eq-eqb x.den x.den refl)

filter-same : {A : Type 0} (p q : A → Bool) → ((x : A) → p x ≡ q x) → (xs : List A) → filter p xs ≡ filter q xs
filter-same p q h [] = refl
filter-same {A} p q h (x ∷ xs) =
    ap (λ (l : List A). cond (p x) (x ∷ l) l) (filter-same p q h xs) ∙ ap (λ (b : Bool). cond b (x ∷ filter q xs) (filter q xs)) (h x)

kept_tail : {A : Type 0} (b : Bool) (x : A) (us vs : List A) → cond b (x ∷ us) us ≡ cond b (x ∷ vs) vs → us ≡ vs
kept_tail true x us vs e = cc
kept_tail false x us vs e = e

module _ {A : Type 0} (time : A → Rational) where
  abbrev pub is_at : Rational → A → Bool
  is_at t x = same_ℚ (time x) t

  abbrev pub at : Rational → List A → List A
  at t = filter (is_at t)

  pub time_is_same : (t : Rational) (x : A) → is_at t x ≡ true → time x ≡ t
  time_is_same t x e = same_numbers (time x) t e

  pub same_time : (t : Rational) (x : A) → time x ≡ t → is_at t x ≡ true
  same_time t x e = subst (λ s. same_ℚ (time x) s ≡ true) e (same_itself (time x))

  pub at-by_time : (t : Rational) (xs : List A) → at t (by_time time xs) ≡ at t xs
  at-by_time t xs =
      let there = All-weaker (λ x. is_at t x ≡ true) (λ x. time x ≡ t) (time_is_same t) (at t xs) (filter_passes (is_at t) xs) in
      filter-by_time time (is_at t) xs ∙ by_time-rises time (at t xs) (Rises-at time t (at t xs) there)

  -- ---- lists that rise are told by the items of each time
  at_first : (t : Rational) (x : A) (xs : List A) → time x ≡ t → at t (x ∷ xs) ≡ x ∷ at t xs
  at_first t x xs e = rw (same_time t x e)

  not_later : (x y : A) (xs ys : List A) → AllFrom time (time x) xs → at (time y) (x ∷ xs) ≡ at (time y) (y ∷ ys) → time x ≤ℚ time y
  not_later x y xs ys from e =
      let each = All-filter (λ z. time x ≤ℚ time z) (is_at (time y)) (x ∷ xs) (≤ℚ_refl (time x), from) in
      (subst (AllFrom time (time x)) (e ∙ at_first (time y) y ys refl) each).0

  pub same_by_items : (xs ys : List A) → Rises time xs → Rises time ys → ((x : A) → at (time x) xs ≡ at (time x) ys) → xs ≡ ys
  same_by_items [] [] r s h = refl
  same_by_items [] (y ∷ ys) r s h = let e = h y ∙ at_first (time y) y ys refl in cc
  same_by_items (x ∷ xs) [] r s h = let e = sym (h x) ∙ at_first (time x) x xs refl in cc
  same_by_items (x ∷ xs) (y ∷ ys) r s h =
      let together : time x ≡ time y = ≤ℚ_antisymm (not_later x y xs ys r.0 (h y)) (not_later y x ys xs s.0 (sym (h x))) in
      let heads : x ∷ at (time x) xs ≡ y ∷ at (time x) ys = sym (at_first (time x) x xs refl) ∙ h x ∙ at_first (time x) y ys (sym together) in
      let first : y ≡ x = cc in
      let rest = same_by_items xs ys r.1 s.1
      (λ z. kept_tail (is_at (time z) x) x (at (time z) xs) (at (time z) ys)
      (subst (λ (w : A). at (time z) (x ∷ xs) ≡ at (time z) (w ∷ ys)) first (h z))) in
      cc

  pub same_by_times : (xs ys : List A) → Rises time xs → Rises time ys → ((t : Rational) → at t xs ≡ at t ys) → xs ≡ ys
  same_by_times xs ys r s h = same_by_items xs ys r s (λ x. h (time x))

  -- ---- a stable sort
  ties_at : (x y : A) → ties (is_earlier time) x y ≡ is_at (time x) y
  ties_at x y = by (is_at (time x) y) refl
    where
      apart : (b c : Bool) → lt_ℚ (time x) (time y) ≡ b → lt_ℚ (time y) (time x) ≡ c → is_at (time x) y ≡ false → (not b && not c) ≡ false
      apart true c e f n = refl
      apart false true e f n = refl
      apart false false e f n =
          let same = ≤ℚ_antisymm ((lt_ℚ-false (time x) (time y)).0 e) ((lt_ℚ-false (time y) (time x)).0 f) in
          absurd (false≢true (sym n ∙ same_time (time x) y same))

      by : (b : Bool) → is_at (time x) y ≡ b → (not (lt_ℚ (time x) (time y)) && not (lt_ℚ (time y) (time x))) ≡ b
      by true e =
          let same = time_is_same (time x) y e in
          rw ((lt_ℚ-false (time x) (time y)).1 (≤ℚ_from_same same), (lt_ℚ-false (time y) (time x)).1 (≤ℚ_from_same (sym same)))
      by false e = apart (lt_ℚ (time x) (time y)) (lt_ℚ (time y) (time x)) refl refl e

  pub by_time-sorted : (xs ys : List A) → IsSortedBy (is_earlier time) ys → IsStableBy (is_earlier time) xs ys → ys ≡ by_time time xs
  by_time-sorted xs ys sorted stable =
      same_by_items ys (by_time time xs) (Rises-from_sorted time ys sorted) (Rises-by_time time xs)
      (λ x. sym (filter-same (ties (is_earlier time) x) (is_at (time x)) (ties_at x) ys) ∙ stable x
      ∙ filter-same (ties (is_earlier time) x) (is_at (time x)) (ties_at x) xs ∙ sym (at-by_time (time x) xs))

  pub IsStrictWeakOrder-earlier : IsStrictWeakOrder (is_earlier time)
  IsStrictWeakOrder-earlier = record {
    one_way = λ x y e. (lt_ℚ-false (time y) (time x)).1 (≤ℚ_from_<ℚ ((lt_ℚ-true (time x) (time y)).0 e));
    chain = λ x y z e f. (lt_ℚ-false (time x) (time z)).1 (≤ℚ_trans ((lt_ℚ-false (time y) (time z)).0 f) ((lt_ℚ-false (time x) (time y)).0 e));
  }

  -- the clauses of `sort_by`, where each call answers that the first is less just where it is earlier
  pub by_time-from_sort_by : {F : Type 0} {g : Mut F (Bor A × (Bor A × Unit {0})) Ordering} {f : F} (xs ys : List A)
      → ((lt : A → A → Bool) → IsStrictWeakOrder lt → ComparesAs g lt f → IsSortedBy lt ys)
      → ((lt : A → A → Bool) → IsStrictWeakOrder lt → ComparesAs g lt f → IsStableBy lt xs ys)
      → ((a : Bor A × (Bor A × Unit {0})) (r : Ordering) (f' : F) → Called g f a r f' → (is_lt r ≡ is_earlier time a.0.now a.1.0.now) × (f' ≡ f))
      → ys ≡ by_time time xs
  by_time-from_sort_by {g = g} {f = f} xs ys sorted stable calls =
      let compares = always_returns_same g (λ a r. is_lt r ≡ is_earlier time a.0.now a.1.0.now) f calls in
      by_time-sorted xs ys (sorted (is_earlier time) IsStrictWeakOrder-earlier compares) (stable (is_earlier time) IsStrictWeakOrder-earlier compares)
