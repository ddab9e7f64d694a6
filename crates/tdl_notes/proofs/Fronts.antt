-- The longest front of a list that passes a test, and what follows it.
--     front_then_rest          together they are the list
--     front_passes             each item of the front passes
--     All-front_part, All-rest_part, Rises-rest   what stays
--     front-two, rest-two      by a test, and then by one that passes more
--     filter-map               the items that pass after a map
--     front-before, rest-before     of a list that rises: those before a time, and those from it on
--     rest_later               those that are not up to a time are later
use Rattle.std.proofs.Common.{◌≡◌, Bool, true, false, cond, not, List, [], ◌∷◌, ◌++◌, map, filter, refl, sym, ap, subst, if◌then◌else◌}
use Rattle.std.specs.List.{AllByRecursion}
use Rattle.tdl_fraction.specs.Rational.{Rational, lt_ℚ, ◌≤ℚ◌, ◌<ℚ◌}
use Rattle.tdl_fraction.proofs.Over.{lt_ℚ-true, lt_ℚ-false}
use Rattle.tdl_fraction.proofs.Order.{<ℚ-≤ℚ_trans}
use Rattle.tdl_order.specs.TimeOrder.{Rises, is_before, is_from}
use Rattle.tdl_order.proofs.EachItem.{All-weaker, All-front, All-back}
use Rattle.tdl_order.proofs.Rising.{AllFrom-earlier}
use Rattle.tdl_order.proofs.Cuts.{before-from, from-from}
use Rattle.tdl_agenda.specs.declared.items.Item.{Item}
use Rattle.tdl_notes.specs.inside.Machine.{front, rest, is_until, stop_of}

module _ {A : Type 0} (p : A → Bool) where
  pub front_then_rest : (xs : List A) → front p xs ++ rest p xs ≡ xs
  front_then_rest [] = refl
  front_then_rest (x ∷ xs) = by (p x) (front_then_rest xs)
    where
      by : (b : Bool) → front p xs ++ rest p xs ≡ xs → (if b then x ∷ front p xs else []) ++ (if b then rest p xs else x ∷ xs) ≡ x ∷ xs
      by true more = ap (λ (l : List A). x ∷ l) more
      by false more = refl

  pub front_passes : (xs : List A) → AllByRecursion (λ x. p x ≡ true) (front p xs)
  front_passes [] = tt
  front_passes (x ∷ xs) = by (p x) refl (front_passes xs)
    where
      by : (b : Bool) → p x ≡ b → AllByRecursion (λ y. p y ≡ true) (front p xs) → AllByRecursion (λ y. p y ≡ true) (if b then x ∷ front p xs else [])
      by true e more = (e, more)
      by false e more = tt

  pub All-front_part : (P : A → Type 0) (xs : List A) → AllByRecursion P xs → AllByRecursion P (front p xs)
  All-front_part P xs h = All-front P (front p xs) (rest p xs) (subst (AllByRecursion P) (sym (front_then_rest xs)) h)

  pub All-rest_part : (P : A → Type 0) (xs : List A) → AllByRecursion P xs → AllByRecursion P (rest p xs)
  All-rest_part P xs h = All-back P (front p xs) (rest p xs) (subst (AllByRecursion P) (sym (front_then_rest xs)) h)

  pub Rises-rest : (time : A → Rational) (xs : List A) → Rises time xs → Rises time (rest p xs)
  Rises-rest time [] r = tt
  Rises-rest time (x ∷ xs) r = by (p x) (Rises-rest time xs r.1)
    where
      by : (b : Bool) → Rises time (rest p xs) → Rises time (if b then rest p xs else x ∷ xs)
      by true more = more
      by false more = r

  pub Rises-front : (time : A → Rational) (xs : List A) → Rises time xs → Rises time (front p xs)
  Rises-front time [] r = tt
  Rises-front time (x ∷ xs) r = by (p x) (Rises-front time xs r.1)
    where
      by : (b : Bool) → Rises time (front p xs) → Rises time (if b then x ∷ front p xs else [])
      by true more = (All-front_part (λ y. time x ≤ℚ time y) xs r.0, more)
      by false more = tt

  -- ---- by a test that passes more
  pub front-two : (q : A → Bool) → ((x : A) → p x ≡ true → q x ≡ true) → (xs : List A) → front q xs ≡ front p xs ++ front q (rest p xs)
  front-two q h [] = refl
  front-two q h (x ∷ xs) = by (p x) refl (front-two q h xs)
    where
      by : (b : Bool) → p x ≡ b → front q xs ≡ front p xs ++ front q (rest p xs)
          → front q (x ∷ xs) ≡ (if b then x ∷ front p xs else []) ++ front q (if b then rest p xs else x ∷ xs)
      by true e more = rw (h x e) (ap (λ (l : List A). x ∷ l) more)
      by false e more = refl

  pub rest-two : (q : A → Bool) → ((x : A) → p x ≡ true → q x ≡ true) → (xs : List A) → rest q xs ≡ rest q (rest p xs)
  rest-two q h [] = refl
  rest-two q h (x ∷ xs) = by (p x) refl (rest-two q h xs)
    where
      by : (b : Bool) → p x ≡ b → rest q xs ≡ rest q (rest p xs) → rest q (x ∷ xs) ≡ rest q (if b then rest p xs else x ∷ xs)
      by true e more = rw (h x e) more
      by false e more = refl

  -- ---- after a map
  pub filter-map : {B : Type 0} (f : B → A) (bs : List B) → filter p (map f bs) ≡ map f (filter (λ b. p (f b)) bs)
  filter-map f [] = refl
  filter-map {B} f (b ∷ bs) = by (p (f b)) (filter-map f bs)
    where
      by : (k : Bool) → filter p (map f bs) ≡ map f (filter (λ c. p (f c)) bs)
          → cond k (f b ∷ filter p (map f bs)) (filter p (map f bs)) ≡ map f (cond k (b ∷ filter (λ c. p (f c)) bs) (filter (λ c. p (f c)) bs))
      by true more = ap (λ (l : List A). f b ∷ l) more
      by false more = more

-- ---- lists that rise
module _ {A : Type 0} (time : A → Rational) (t : Rational) where
  pub front-before : (xs : List A) → Rises time xs → front (is_before time t) xs ≡ filter (is_before time t) xs
  front-before [] r = refl
  front-before (x ∷ xs) r = by (lt_ℚ (time x) t) refl (front-before xs r.1)
    where
      by : (b : Bool) → lt_ℚ (time x) t ≡ b → front (is_before time t) xs ≡ filter (is_before time t) xs
          → (if b then x ∷ front (is_before time t) xs else []) ≡ cond b (x ∷ filter (is_before time t) xs) (filter (is_before time t) xs)
      by true e more = ap (λ (l : List A). x ∷ l) more
      by false e more = sym (before-from time t xs (AllFrom-earlier time ((lt_ℚ-false (time x) t).0 e) xs r.0))

  pub rest-before : (xs : List A) → Rises time xs → rest (is_before time t) xs ≡ filter (is_from time t) xs
  rest-before [] r = refl
  rest-before (x ∷ xs) r = by (lt_ℚ (time x) t) refl (rest-before xs r.1)
    where
      by : (b : Bool) → lt_ℚ (time x) t ≡ b → rest (is_before time t) xs ≡ filter (is_from time t) xs
          → (if b then rest (is_before time t) xs else x ∷ xs) ≡ cond (not b) (x ∷ filter (is_from time t) xs) (filter (is_from time t) xs)
      by true e more = more
      by false e more = ap (λ (l : List A). x ∷ l) (sym (from-from time t xs (AllFrom-earlier time ((lt_ℚ-false (time x) t).0 e) xs r.0)))

not_false : (b : Bool) → not b ≡ true → b ≡ false
not_false true e = sym e
not_false false e = refl

pub until_is : (t : Rational) (item : Item) → is_until t item ≡ true → item.time ≤ℚ t
until_is t item e = (lt_ℚ-false t item.time).0 (not_false (lt_ℚ t item.time) e)

pub rest_later : (t : Rational) (items : List Item) → Rises stop_of items → AllByRecursion (λ item. t <ℚ item.time) (rest (is_until t) items)
rest_later t [] r = tt
rest_later t (x ∷ xs) r = by (lt_ℚ t x.time) refl (rest_later t xs r.1)
  where
    by : (b : Bool) → lt_ℚ t x.time ≡ b → AllByRecursion (λ item. t <ℚ item.time) (rest (is_until t) xs)
        → AllByRecursion (λ item. t <ℚ item.time) (if not b then rest (is_until t) xs else x ∷ xs)
    by true e more =
        let later = (lt_ℚ-true t x.time).0 e in
        (later, All-weaker (λ y. x.time ≤ℚ y.time) (λ y. t <ℚ y.time) (λ y up. <ℚ-≤ℚ_trans later up) xs r.0)
    by false e more = more
