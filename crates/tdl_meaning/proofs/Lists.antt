-- What holds of each item of a list.
use Rattle.std.proofs.Common.{ℕ, zero, suc, ◌+◌, ◌<◌, ◌≤◌, List, [], ◌∷◌, ◌++◌, map, length, get_or, Contains, ℤ, pos, ◌+ℤ◌, ◌≤ℤ◌, ◌<ℤ◌, subst, arith}
use Rattle.std.specs.List.{flat_map, range_with_len}
use Rattle.std.proofs.lemmas.Int.{ints}
use Rattle.tdl_meaning.specs.Pattern.{whole_range}
use Rattle.tdl_meaning.specs.Proper.{Each}

pub each_append : {X : Type 0} (P : X → Type 0) (xs ys : List X) → Each P xs → Each P ys → Each P (xs ++ ys)
each_append P [] ys h k = k
each_append P (x ∷ xs) ys h k = (h.0, each_append P xs ys h.1 k)

pub each_map : {X Y : Type 0} (P : X → Type 0) (Q : Y → Type 0) (f : X → Y) → ((x : X) → P x → Q (f x)) → (xs : List X) → Each P xs → Each Q (map f xs)
each_map P Q f step [] h = tt
each_map P Q f step (x ∷ xs) h = (step x h.0, each_map P Q f step xs h.1)

pub each_unmap : {X Y : Type 0} (Q : Y → Type 0) (f : X → Y) (xs : List X) → Each Q (map f xs) → Each (λ x. Q (f x)) xs
each_unmap Q f [] h = tt
each_unmap Q f (x ∷ xs) h = (h.0, each_unmap Q f xs h.1)

pub each_flat : {X Y : Type 0} (P : X → Type 0) (Q : Y → Type 0) (f : X → List Y) → ((x : X) → P x → Each Q (f x)) → (xs : List X) → Each P xs
    → Each Q (flat_map f xs)
each_flat P Q f step [] h = tt
each_flat P Q f step (x ∷ xs) h = each_append Q (f x) (flat_map f xs) (step x h.0) (each_flat P Q f step xs h.1)

pub each_weaker : {X : Type 0} (P Q : X → Type 0) → ((x : X) → P x → Q x) → (xs : List X) → Each P xs → Each Q xs
each_weaker P Q step [] h = tt
each_weaker P Q step (x ∷ xs) h = (step x h.0, each_weaker P Q step xs h.1)

-- of two facts a third
pub each_both : {X : Type 0} (P Q R : X → Type 0) → ((x : X) → P x → Q x → R x) → (xs : List X) → Each P xs → Each Q xs → Each R xs
each_both P Q R step [] h k = tt
each_both P Q R step (x ∷ xs) h k = (step x h.0 k.0, each_both P Q R step xs h.1 k.1)

-- at a place, or of what stands for a place past the end
pub each_get_or : {X : Type 0} (P : X → Type 0) (xs : List X) (k : ℕ) (d : X) → P d → Each P xs → P (get_or xs k d)
each_get_or P [] k d h all = h
each_get_or P (x ∷ xs) zero d h all = all.0
each_get_or P (x ∷ xs) (suc k) d h all = each_get_or P xs k d h all.1

-- of an item that the list has
pub each_contained : {X : Type 0} (P : X → Type 0) (xs : List X) (x : X) → Each P xs → Contains xs x → P x
each_contained P xs x all h = subst P h.2 (at xs h.0 x h.1 all)
  where
    at : (ys : List _) (k : ℕ) (d : _) → k < length ys → Each P ys → P (get_or ys k d)
    at [] k d lt h = absurd (omega arith)
    at (y ∷ ys) zero d lt h = h.0
    at (y ∷ ys) (suc k) d lt h = at ys k d (omega arith) h.1

-- of so many whole numbers from the first on
pub each_in_range : (P : ℤ → Type 0) (first : ℤ) (n : ℕ) → ((c : ℤ) → first ≤ℤ c → c <ℤ (first +ℤ pos n) → P c) → Each P (whole_range first n)
each_in_range P first zero step = tt
each_in_range P first (suc n) step = (
  step first (omega (arith, ints)) (omega (arith, ints)),
  each_in_range P (first +ℤ pos 1) n (λ c low high. step c (omega (arith, ints)) (omega (arith, ints))),
)

pub each_range_with_len : (P : ℕ → Type 0) (a n : ℕ) → ((j : ℕ) → a ≤ j → j < a + n → P j) → Each P (range_with_len a n)
each_range_with_len P a zero step = tt
each_range_with_len P a (suc n) step = (
  step a (omega arith) (omega arith),
  each_range_with_len P (a + 1) n (λ j low high. step j (omega (arith, low)) (omega (arith, high))),
)
