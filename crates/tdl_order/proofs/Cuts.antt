-- Items before a time, and from it on.
--     before-from, from-from            of items that are all at t or later
--     before-before, from-before        of items that are all before t
--     AllBefore-filter, AllFrom-filter  what the items that are taken are
--     before_then_from                  a list that rises is those before t, and then those from t on
use Rattle.std.proofs.Common.{◌≡◌, Bool, true, false, cond, not, List, [], ◌∷◌, ◌++◌, filter, refl, sym, ap, ◌∙◌}
use Rattle.tdl_fraction.specs.Rational.{Rational, lt_ℚ, ◌≤ℚ◌, ◌<ℚ◌}
use Rattle.tdl_fraction.proofs.Over.{lt_ℚ-true, lt_ℚ-false}
use Rattle.tdl_order.specs.TimeOrder.{Rises, is_before, is_from}
use Rattle.tdl_order.proofs.EachItem.{All-weaker, filter_passes}
use Rattle.tdl_order.proofs.Rising.{AllFrom, AllBefore, AllFrom-earlier}

not_true : (b : Bool) → not b ≡ true → b ≡ false
not_true true e = sym e
not_true false e = refl

module _ {A : Type 0} (time : A → Rational) (t : Rational) where
  pub before-from : (xs : List A) → AllFrom time t xs → filter (is_before time t) xs ≡ []
  before-from [] h = refl
  before-from (x ∷ xs) h = rw ((lt_ℚ-false (time x) t).1 h.0) (before-from xs h.1)

  pub from-from : (xs : List A) → AllFrom time t xs → filter (is_from time t) xs ≡ xs
  from-from [] h = refl
  from-from (x ∷ xs) h = rw ((lt_ℚ-false (time x) t).1 h.0) (ap (λ (l : List A). x ∷ l) (from-from xs h.1))

  pub before-before : (xs : List A) → AllBefore time t xs → filter (is_before time t) xs ≡ xs
  before-before [] h = refl
  before-before (x ∷ xs) h = rw ((lt_ℚ-true (time x) t).1 h.0) (ap (λ (l : List A). x ∷ l) (before-before xs h.1))

  pub from-before : (xs : List A) → AllBefore time t xs → filter (is_from time t) xs ≡ []
  from-before [] h = refl
  from-before (x ∷ xs) h = rw ((lt_ℚ-true (time x) t).1 h.0) (from-before xs h.1)

  pub AllBefore-filter : (xs : List A) → AllBefore time t (filter (is_before time t) xs)
  AllBefore-filter xs =
      All-weaker (λ x. is_before time t x ≡ true) (λ x. time x <ℚ t) (λ x e. (lt_ℚ-true (time x) t).0 e) (filter (is_before time t) xs)
      (filter_passes (is_before time t) xs)

  pub AllFrom-filter : (xs : List A) → AllFrom time t (filter (is_from time t) xs)
  AllFrom-filter xs =
      All-weaker (λ x. is_from time t x ≡ true) (λ x. t ≤ℚ time x) (λ x e. (lt_ℚ-false (time x) t).0 (not_true (lt_ℚ (time x) t) e))
      (filter (is_from time t) xs) (filter_passes (is_from time t) xs)

  pub before_then_from : (xs : List A) → Rises time xs → filter (is_before time t) xs ++ filter (is_from time t) xs ≡ xs
  before_then_from [] r = refl
  before_then_from (x ∷ xs) r = by (lt_ℚ (time x) t) refl (before_then_from xs r.1)
    where
      by : (b : Bool) → lt_ℚ (time x) t ≡ b → filter (is_before time t) xs ++ filter (is_from time t) xs ≡ xs
          → cond b (x ∷ filter (is_before time t) xs) (filter (is_before time t) xs)
          ++ cond (not b) (x ∷ filter (is_from time t) xs) (filter (is_from time t) xs)
          ≡ x ∷ xs
      by true e more = ap (λ (l : List A). x ∷ l) more
      by false e more =
          let later = AllFrom-earlier time ((lt_ℚ-false (time x) t).0 e) xs r.0 in
          ap (λ (l : List A). l ++ (x ∷ filter (is_from time t) xs)) (before-from xs later) ∙ ap (λ (l : List A). x ∷ l) (from-from xs later)
