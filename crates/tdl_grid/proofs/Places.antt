-- A list whose items are moved in place, one after another: the item at the next place, moved.
use Rattle.std.proofs.Common.{◌≡◌, ℕ, zero, suc, ◌+◌, ◌<◌, ◌≤◌, List, [], ◌∷◌, length, get_or, set, refl, ap, ap₂, ◌∙◌, arith}
use Rattle.tdl_meaning.proofs.Moves.{moved_between}

module _ {X : Type 0} (f : X → X) where
  -- it is as it was before
  still_there : (from i : ℕ) (xs : List X) (d : X) → from ≤ i → get_or (moved_between f from i xs) i d ≡ get_or xs i d
  still_there zero zero xs d h = refl
  still_there zero (suc i) [] d h = refl
  still_there zero (suc i) (x ∷ xs) d h = still_there zero i xs d (omega arith)
  still_there (suc from) zero xs d h = absurd (omega arith)
  still_there (suc from) (suc i) [] d h = refl
  still_there (suc from) (suc i) (x ∷ xs) d h = still_there from i xs d (omega arith)

  -- with it one more is moved
  moved_there : (from i : ℕ) (xs : List X) (d : X) → from ≤ i → i < length xs
      → set (moved_between f from i xs) i (f (get_or xs i d)) ≡ moved_between f from (suc i) xs
  moved_there from i [] d h k = absurd (omega arith)
  moved_there zero zero (x ∷ xs) d h k = refl
  moved_there zero (suc i) (x ∷ xs) d h k = ap (λ ys. f x ∷ ys) (moved_there zero i xs d (omega arith) (omega arith))
  moved_there (suc from) zero (x ∷ xs) d h k = absurd (omega arith)
  moved_there (suc from) (suc i) (x ∷ xs) d h k = ap (λ ys. x ∷ ys) (moved_there from i xs d (omega arith) (omega arith))

  pub placed_more : (from i : ℕ) (xs ys zs : List X) (x y : X) → from ≤ i → ys ≡ moved_between f from i xs → i < length xs → x ≡ get_or ys i x
      → zs ≡ set ys i y → y ≡ f x → zs ≡ moved_between f from (i + 1) xs
  placed_more from i xs ys zs x y after moved within e new same =
      let here : x ≡ get_or xs i x = e ∙ ap (λ us. get_or us i x) moved ∙ still_there from i xs x after in
      let next : suc i ≡ i + 1 = omega arith in
      new ∙ ap₂ (λ us y. set us i y) moved (same ∙ ap f here) ∙ moved_there from i xs x after within
      ∙ ap (λ n. moved_between f from n xs) next
