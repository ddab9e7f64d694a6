-- What holds of each item of a list, by recursion on the list.
--     All-weaker                    what follows from it holds of each too
--     All-append, All-flat_map      joined lists
--     All-front, All-back           the parts of a joined list
--     All-map                       mapped items
--     All-filter, filter_passes     the items that pass a test: what held of each, and that they pass
use Rattle.std.proofs.Common.{◌≡◌, Bool, true, false, cond, List, [], ◌∷◌, ◌++◌, map, filter, refl}
use Rattle.std.specs.List.{AllByRecursion, flat_map}

module _ {A : Type 0} (P : A → Type 0) where
  pub All-weaker : (Q : A → Type 0) → ((x : A) → P x → Q x) → (xs : List A) → AllByRecursion P xs → AllByRecursion Q xs
  All-weaker Q f [] h = tt
  All-weaker Q f (x ∷ xs) h = (f x h.0, All-weaker Q f xs h.1)

  pub All-append : (xs ys : List A) → AllByRecursion P xs → AllByRecursion P ys → AllByRecursion P (xs ++ ys)
  All-append [] ys h k = k
  All-append (x ∷ xs) ys h k = (h.0, All-append xs ys h.1 k)

  pub All-front : (xs ys : List A) → AllByRecursion P (xs ++ ys) → AllByRecursion P xs
  All-front [] ys h = tt
  All-front (x ∷ xs) ys h = (h.0, All-front xs ys h.1)

  pub All-back : (xs ys : List A) → AllByRecursion P (xs ++ ys) → AllByRecursion P ys
  All-back [] ys h = h
  All-back (x ∷ xs) ys h = All-back xs ys h.1

  pub All-flat_map : {B : Type 0} (f : B → List A) (bs : List B) → AllByRecursion (λ b. AllByRecursion P (f b)) bs → AllByRecursion P (flat_map f bs)
  All-flat_map f [] h = tt
  All-flat_map f (b ∷ bs) h = All-append (f b) (flat_map f bs) h.0 (All-flat_map f bs h.1)

  pub All-map : {B : Type 0} (f : B → A) (bs : List B) → AllByRecursion (λ b. P (f b)) bs → AllByRecursion P (map f bs)
  All-map f [] h = tt
  All-map f (b ∷ bs) h = (h.0, All-map f bs h.1)

  pub All-filter : (p : A → Bool) (xs : List A) → AllByRecursion P xs → AllByRecursion P (filter p xs)
  All-filter p [] h = tt
  All-filter p (x ∷ xs) h = by (p x) (All-filter p xs h.1)
    where
      by : (b : Bool) → AllByRecursion P (filter p xs) → AllByRecursion P (cond b (x ∷ filter p xs) (filter p xs))
      by true more = (h.0, more)
      by false more = more

pub filter_passes : {A : Type 0} (p : A → Bool) (xs : List A) → AllByRecursion (λ x. p x ≡ true) (filter p xs)
filter_passes p [] = tt
filter_passes {A} p (x ∷ xs) = by (p x) refl (filter_passes p xs)
  where
    by : (b : Bool) → p x ≡ b → AllByRecursion (λ y. p y ≡ true) (filter p xs) → AllByRecursion (λ y. p y ≡ true) (cond b (x ∷ filter p xs) (filter p xs))
    by true e more = (e, more)
    by false e more = more
