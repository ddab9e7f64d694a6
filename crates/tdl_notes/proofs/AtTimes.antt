-- The marks of each time.
--     at-cons, at-append       parts of a list
--     at-none                  where each mark is of another time
--     at-later                 a mark that is before all that follow it may as well stand last
--     at-filter                by a test that is the same for all marks of the time
--     at-before, at-from       those before, and those from a time on
use Rattle.std.proofs.Common.{◌≡◌, ◌≢◌, Bool, true, false, cond, not, List, [], ◌∷◌, ◌++◌, filter, refl, sym, ap, subst, ◌∙◌, append-nil}
use Rattle.std.specs.List.{AllByRecursion}
use Rattle.std.proofs.lemmas.Bool.{false_from_ne_true}
use Rattle.std.proofs.lemmas.List.Elements.{filter-append}
use Rattle.tdl_fraction.specs.Rational.{Rational, lt_ℚ, ◌<ℚ◌}
use Rattle.tdl_fraction.proofs.Order.{≢_from_<ℚ}
use Rattle.tdl_order.specs.TimeOrder.{is_before, is_from}
use Rattle.tdl_order.proofs.ByTimes.{is_at, at, time_is_same}

module _ {A : Type 0} (time : A → Rational) (t : Rational) where
  pub at-cons : (x : A) (xs : List A) → at time t (x ∷ xs) ≡ at time t (x ∷ []) ++ at time t xs
  at-cons x xs = by (is_at time t x)
    where
      by : (b : Bool) → cond b (x ∷ at time t xs) (at time t xs) ≡ cond b (x ∷ []) [] ++ at time t xs
      by true = refl
      by false = refl

  pub at-append : (xs ys : List A) → at time t (xs ++ ys) ≡ at time t xs ++ at time t ys
  at-append xs ys = filter-append (is_at time t) xs ys

  pub not_at : (x : A) → time x ≢ t → is_at time t x ≡ false
  not_at x apart = false_from_ne_true (is_at time t x) (λ e. apart (time_is_same time t x e))

  pub at-none : (xs : List A) → AllByRecursion (λ x. time x ≢ t) xs → at time t xs ≡ []
  at-none [] h = refl
  at-none (x ∷ xs) h = rw (not_at x h.0) (at-none xs h.1)

  pub at-later : (x : A) (xs : List A) → AllByRecursion (λ y. time x <ℚ time y) xs → at time t (x ∷ xs) ≡ at time t xs ++ at time t (x ∷ [])
  at-later x xs later = by (is_at time t x) refl
    where
      none : (ys : List A) → time x ≡ t → AllByRecursion (λ y. time x <ℚ time y) ys → at time t ys ≡ []
      none [] e h = refl
      none (y ∷ ys) e h = rw (not_at y (λ same. ≢_from_<ℚ h.0 (e ∙ sym same))) (none ys e h.1)

      by : (b : Bool) → is_at time t x ≡ b → cond b (x ∷ at time t xs) (at time t xs) ≡ at time t xs ++ cond b (x ∷ []) []
      by true e = rw (none xs (time_is_same time t x e) later) refl
      by false e = sym (append-nil (at time t xs))

  pub at-filter : (p : A → Bool) (b : Bool) → ((x : A) → time x ≡ t → p x ≡ b) → (xs : List A) → at time t (filter p xs) ≡ cond b (at time t xs) []
  at-filter p true h [] = refl
  at-filter p false h [] = refl
  at-filter p b h (x ∷ xs) = by (is_at time t x) refl (at-filter p b h xs)
    where
      kept : (k : Bool) → is_at time t x ≡ true → at time t (filter p xs) ≡ cond k (at time t xs) []
          → at time t (cond k (x ∷ filter p xs) (filter p xs)) ≡ cond k (x ∷ at time t xs) []
      kept true e more = rw e (ap (λ (l : List A). x ∷ l) more)
      kept false e more = more

      other : (k : Bool) → is_at time t x ≡ false → at time t (filter p xs) ≡ cond b (at time t xs) []
          → at time t (cond k (x ∷ filter p xs) (filter p xs)) ≡ cond b (at time t xs) []
      other true e more = rw e more
      other false e more = more

      by : (k : Bool) → is_at time t x ≡ k → at time t (filter p xs) ≡ cond b (at time t xs) []
          → at time t (filter p (x ∷ xs)) ≡ cond b (cond k (x ∷ at time t xs) (at time t xs)) []
      by true e more =
          subst (λ (q : Bool). at time t (cond q (x ∷ filter p xs) (filter p xs)) ≡ cond b (x ∷ at time t xs) []) (sym (h x (time_is_same time t x e)))
          (kept b e more)
      by false e more = other (p x) e more

  pub at-before : (s : Rational) (xs : List A) → at time t (filter (is_before time s) xs) ≡ cond (lt_ℚ t s) (at time t xs) []
  at-before s xs = at-filter (is_before time s) (lt_ℚ t s) (λ x e. ap (λ (r : Rational). lt_ℚ r s) e) xs

  pub at-from : (s : Rational) (xs : List A) → at time t (filter (is_from time s) xs) ≡ cond (not (lt_ℚ t s)) (at time t xs) []
  at-from s xs = at-filter (is_from time s) (not (lt_ℚ t s)) (λ x e. ap (λ (r : Rational). not (lt_ℚ r s)) e) xs
