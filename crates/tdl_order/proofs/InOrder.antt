-- Items in order of their times: what stays, and what goes through it.
--     All-placed, All-by_time           what holds of each item
--     placed_first, by_time-rises       an item that is not later than any; a list that rises
--     Rises-placed, Rises-by_time       the order rises
--     by_time-twice                     what is in order stays so
--     filter-placed, filter-by_time     the items that pass a test
--     placed-append, by_time-append     one list after the other, where none of the second is earlier than one of the first
--     map-placed, by_time-map           mapped items, by the times of what they are mapped to
--     sum_by-placed, sum_by-by_time     a sum over them
--     count_by-by_time                  how many pass a test
--     length-placed, length-by_time     how many there are
use Rattle.std.proofs.Common.{◌≡◌, ℕ, suc, ◌+◌, Bool, true, false, cond, List, [], ◌∷◌, ◌++◌, map, filter, length, sum_by, count_by, refl, sym, ap, ◌∙◌}
use Rattle.std.proofs.Common.{arith, if◌then◌else◌}
use Rattle.std.proofs.lemmas.List.Sums.{sum_by-cons}
use Rattle.std.specs.List.{AllByRecursion}
use Rattle.tdl_fraction.specs.Rational.{Rational, lt_ℚ, ◌≤ℚ◌}
use Rattle.tdl_fraction.proofs.Over.{lt_ℚ-true, lt_ℚ-false}
use Rattle.tdl_fraction.proofs.Order.{≤ℚ_from_<ℚ}
use Rattle.tdl_order.specs.TimeOrder.{placed, by_time, Rises}
use Rattle.tdl_order.proofs.EachItem.{All-filter}
use Rattle.tdl_order.proofs.Rising.{AllFrom, AllFrom-earlier}

module _ {A : Type 0} (time : A → Rational) where
  -- ---- what holds of each
  pub All-placed : (P : A → Type 0) (x : A) (xs : List A) → P x → AllByRecursion P xs → AllByRecursion P (placed time x xs)
  All-placed P x [] p h = (p, tt)
  All-placed P x (y ∷ ys) p h = by (lt_ℚ (time y) (time x)) (All-placed P x ys p h.1)
    where
      by : (b : Bool) → AllByRecursion P (placed time x ys) → AllByRecursion P (if b then y ∷ placed time x ys else x ∷ y ∷ ys)
      by true more = (h.0, more)
      by false more = (p, h)

  pub All-by_time : (P : A → Type 0) (xs : List A) → AllByRecursion P xs → AllByRecursion P (by_time time xs)
  All-by_time P [] h = tt
  All-by_time P (x ∷ xs) h = All-placed P x (by_time time xs) h.0 (All-by_time P xs h.1)

  -- ---- lists that rise
  pub placed_first : (x : A) (xs : List A) → AllFrom time (time x) xs → placed time x xs ≡ x ∷ xs
  placed_first x [] h = refl
  placed_first x (y ∷ ys) h = rw ((lt_ℚ-false (time y) (time x)).1 h.0)

  pub by_time-rises : (xs : List A) → Rises time xs → by_time time xs ≡ xs
  by_time-rises [] r = refl
  by_time-rises (x ∷ xs) r = ap (placed time x) (by_time-rises xs r.1) ∙ placed_first x xs r.0

  pub Rises-placed : (x : A) (xs : List A) → Rises time xs → Rises time (placed time x xs)
  Rises-placed x [] r = (tt, tt)
  Rises-placed x (y ∷ ys) r = by (lt_ℚ (time y) (time x)) refl (Rises-placed x ys r.1)
    where
      by : (b : Bool) → lt_ℚ (time y) (time x) ≡ b → Rises time (placed time x ys) → Rises time (if b then y ∷ placed time x ys else x ∷ y ∷ ys)
      by true e more = (All-placed (λ z. time y ≤ℚ time z) x ys (≤ℚ_from_<ℚ ((lt_ℚ-true (time y) (time x)).0 e)) r.0, more)
      by false e more =
          let first : time x ≤ℚ time y = (lt_ℚ-false (time y) (time x)).0 e in
          ((first, AllFrom-earlier time first ys r.0), r)

  pub Rises-by_time : (xs : List A) → Rises time (by_time time xs)
  Rises-by_time [] = tt
  Rises-by_time (x ∷ xs) = Rises-placed x (by_time time xs) (Rises-by_time xs)

  pub by_time-twice : (xs : List A) → by_time time (by_time time xs) ≡ by_time time xs
  by_time-twice xs = by_time-rises (by_time time xs) (Rises-by_time xs)

  -- ---- the items that pass a test
  pub filter-placed : (p : A → Bool) (x : A) (xs : List A) → Rises time xs
      → filter p (placed time x xs) ≡ cond (p x) (placed time x (filter p xs)) (filter p xs)
  filter-placed p x [] r = refl
  filter-placed p x (y ∷ ys) r = by (lt_ℚ (time y) (time x)) refl (filter-placed p x ys r.1)
    where
      earlier : (c d : Bool) (us vs : List A) → lt_ℚ (time y) (time x) ≡ true → us ≡ cond c (placed time x vs) vs
          → cond d (y ∷ us) us ≡ cond c (placed time x (cond d (y ∷ vs) vs)) (cond d (y ∷ vs) vs)
      earlier true true us vs e more = rw (e, more)
      earlier true false us vs e more = more
      earlier false true us vs e more = ap (λ (l : List A). y ∷ l) more
      earlier false false us vs e more = more

      by : (b : Bool) → lt_ℚ (time y) (time x) ≡ b → filter p (placed time x ys) ≡ cond (p x) (placed time x (filter p ys)) (filter p ys)
          → filter p (if b then y ∷ placed time x ys else x ∷ y ∷ ys) ≡ cond (p x) (placed time x (filter p (y ∷ ys))) (filter p (y ∷ ys))
      by true e more = earlier (p x) (p y) (filter p (placed time x ys)) (filter p ys) e more
      by false e more =
          let first : time x ≤ℚ time y = (lt_ℚ-false (time y) (time x)).0 e in
          let from : AllFrom time (time x) (y ∷ ys) = (first, AllFrom-earlier time first ys r.0) in
          let front = placed_first x (filter p (y ∷ ys)) (All-filter (λ z. time x ≤ℚ time z) p (y ∷ ys) from) in
          ap (λ (l : List A). cond (p x) l (filter p (y ∷ ys))) (sym front)

  pub filter-by_time : (p : A → Bool) (xs : List A) → filter p (by_time time xs) ≡ by_time time (filter p xs)
  filter-by_time p [] = refl
  filter-by_time p (x ∷ xs) =
      filter-placed p x (by_time time xs) (Rises-by_time xs)
      ∙ ap (λ (l : List A). cond (p x) (placed time x l) l) (filter-by_time p xs)
      ∙ by (p x)
    where
      by : (b : Bool) → cond b (placed time x (by_time time (filter p xs))) (by_time time (filter p xs))
          ≡ by_time time (cond b (x ∷ filter p xs) (filter p xs))
      by true = refl
      by false = refl

  -- ---- one list after the other
  pub placed-append : (x : A) (xs ys : List A) → AllFrom time (time x) ys → placed time x (xs ++ ys) ≡ placed time x xs ++ ys
  placed-append x [] ys h = placed_first x ys h
  placed-append x (y ∷ xs) ys h = by (lt_ℚ (time y) (time x)) (placed-append x xs ys h)
    where
      by : (b : Bool) → placed time x (xs ++ ys) ≡ placed time x xs ++ ys
          → (if b then y ∷ placed time x (xs ++ ys) else x ∷ y ∷ (xs ++ ys)) ≡ (if b then y ∷ placed time x xs else x ∷ y ∷ xs) ++ ys
      by true more = ap (λ (l : List A). y ∷ l) more
      by false more = refl

  pub by_time-append : (xs ys : List A) → AllByRecursion (λ x. AllFrom time (time x) ys) xs → by_time time (xs ++ ys) ≡ by_time time xs ++ by_time time ys
  by_time-append [] ys h = refl
  by_time-append (x ∷ xs) ys h =
      ap (placed time x) (by_time-append xs ys h.1)
      ∙ placed-append x (by_time time xs) (by_time time ys) (All-by_time (λ y. time x ≤ℚ time y) ys h.0)

  -- ---- mapped items
  pub map-placed : {B : Type 0} (f : B → A) (b : B) (bs : List B) → map f (placed (λ c. time (f c)) b bs) ≡ placed time (f b) (map f bs)
  map-placed f b [] = refl
  map-placed {B} f b (c ∷ bs) = by (lt_ℚ (time (f c)) (time (f b))) (map-placed f b bs)
    where
      by : (k : Bool) → map f (placed (λ d. time (f d)) b bs) ≡ placed time (f b) (map f bs)
          → map f (if k then c ∷ placed (λ d. time (f d)) b bs else b ∷ c ∷ bs) ≡ (if k then f c ∷ placed time (f b) (map f bs) else f b ∷ f c ∷ map f bs)
      by true more = ap (λ (l : List A). f c ∷ l) more
      by false more = refl

  pub by_time-map : {B : Type 0} (f : B → A) (bs : List B) → map f (by_time (λ b. time (f b)) bs) ≡ by_time time (map f bs)
  by_time-map f [] = refl
  by_time-map f (b ∷ bs) = map-placed f b (by_time (λ c. time (f c)) bs) ∙ ap (placed time (f b)) (by_time-map f bs)

  -- ---- how many
  pub sum_by-placed : (n : A → ℕ) (x : A) (xs : List A) → sum_by n (placed time x xs) ≡ n x + sum_by n xs
  sum_by-placed n x [] = omega arith
  sum_by-placed n x (y ∷ ys) = by (lt_ℚ (time y) (time x)) (sum_by-placed n x ys)
    where
      by : (b : Bool) → sum_by n (placed time x ys) ≡ n x + sum_by n ys → sum_by n (if b then y ∷ placed time x ys else x ∷ y ∷ ys) ≡ n x + sum_by n (y ∷ ys)
      by true more = omega (arith, more, sum_by-cons n y (placed time x ys), sum_by-cons n y ys)
      by false more = sum_by-cons n x (y ∷ ys)

  pub sum_by-by_time : (n : A → ℕ) (xs : List A) → sum_by n (by_time time xs) ≡ sum_by n xs
  sum_by-by_time n [] = refl
  sum_by-by_time n (x ∷ xs) = sum_by-placed n x (by_time time xs) ∙ ap (λ (k : ℕ). n x + k) (sum_by-by_time n xs) ∙ sym (sum_by-cons n x xs)

  pub count_by-by_time : (p : A → Bool) (xs : List A) → count_by p (by_time time xs) ≡ count_by p xs
  count_by-by_time p xs = sum_by-by_time (λ x. cond (p x) 1 0) xs

  pub length-placed : (x : A) (xs : List A) → length (placed time x xs) ≡ suc (length xs)
  length-placed x [] = refl
  length-placed x (y ∷ ys) = by (lt_ℚ (time y) (time x)) (length-placed x ys)
    where
      by : (b : Bool) → length (placed time x ys) ≡ suc (length ys) → length (if b then y ∷ placed time x ys else x ∷ y ∷ ys) ≡ suc (suc (length ys))
      by true more = ap suc more
      by false more = refl

  pub length-by_time : (xs : List A) → length (by_time time xs) ≡ length xs
  length-by_time [] = refl
  length-by_time (x ∷ xs) = length-placed x (by_time time xs) ∙ ap suc (length-by_time xs)
