-- Equations of a ring in which some atoms have inverses: an atom and its inverse are struck out of each product.
use Rattle.std.proofs.Common.{◌≡◌, ℕ, zero, suc, List, [], ◌∷◌, length, Bool, true, false, T, eqb, eqb→eq, refl, sym, ap, ap₂, subst, ◌∙◌}
use Rattle.tdl_ring.specs.Ring.{CommutativeRing}
use Rattle.tdl_ring.specs.Expression.{Expression, atom_at, value}
use Rattle.tdl_ring.specs.Normal.{term, Polynomial, normal}
use Rattle.tdl_ring.specs.Pairs.{Inverses, with_inverses, Found, absent, without, in_front, remove, strike_against, strike_pair, strike_factors, strike}
use Rattle.tdl_ring.proofs.Laws as laws
use Rattle.tdl_ring.proofs.Sound.{factors_value, polynomial_value, add_value, normal_value}
use Rattle.tdl_ring.proofs.Quoting.{Sides}

-- what the test says
same_number : (a b : ℕ) → eqb a b ≡ true → a ≡ b
same_number a b e = eqb→eq a b (subst T (sym e) tt)

module _ {A : Type 0} (R : CommutativeRing A) where
  infixl 60 ◌⊕◌
  infixl 70 ◌⊗◌
  open R use {zero as 𝟘, one as 𝟙, plus as ◌⊕◌, times as ◌⊗◌}

  -- the atom at a place
  abbrev at : List A → ℕ → A
  at atoms i = atom_at 𝟘 atoms i

  -- what is left of a product m after a factor j was looked for
  Left : List A → ℕ → List ℕ → Found → Type 0
  Left atoms j m absent = Unit
  Left atoms j m (without n) = factors_value R atoms m ≡ at atoms j ⊗ factors_value R atoms n

  -- one factor more in front of what is left
  left_in_front : (atoms : List A) (j a : ℕ) (m : List ℕ) (f : Found) → Left atoms j m f → Left atoms j (a ∷ m) (in_front a f)
  unfolding Left
  left_in_front atoms j a m absent l = tt
  left_in_front atoms j a m (without n) l = ap (λ x. at atoms a ⊗ x) l ∙ laws.times_left_comm R _ _ _

  -- the first factor is taken, or a later one
  left_first : (atoms : List A) (j a : ℕ) (m : List ℕ) (f : Found) → Left atoms j m f → (t : Bool) → eqb a j ≡ t
      → Left atoms j (a ∷ m) (elim t [ true ↦ without m | false ↦ in_front a f ])
  unfolding Left
  left_first atoms j a m f l true e = ap (λ k. at atoms k ⊗ factors_value R atoms m) (same_number a j e)
  left_first atoms j a m f l false e = left_in_front atoms j a m f l

  -- what `remove` leaves
  left_remove : (atoms : List A) (j : ℕ) (m : List ℕ) → Left atoms j m (remove j m)
  unfolding Left
  left_remove atoms j [] = tt
  left_remove atoms j (a ∷ m) = left_first atoms j a m (remove j m) (left_remove atoms j m) (eqb a j) refl

  -- a factor in front and its inverse go together
  struck_against : (atoms : List A) (i j a : ℕ) → at atoms i ⊗ at atoms j ≡ 𝟙 → a ≡ i → (m : List ℕ) (f : Found) → Left atoms j m f
      → factors_value R atoms (strike_against a m f) ≡ at atoms a ⊗ factors_value R atoms m
  unfolding Left
  struck_against atoms i j a cancels same m absent l = refl
  struck_against atoms i j a cancels same m (without n) l =
      sym (laws.one_times R _) ∙ ap (λ x. x ⊗ factors_value R atoms n) (sym cancels ∙ ap (λ k. at atoms k ⊗ at atoms j) (sym same))
      ∙ R.times_assoc _ _ _ ∙ ap (λ x. at atoms a ⊗ x) (sym l)

  -- a first factor is struck out or stays
  struck_first : (atoms : List A) (i j a : ℕ) → at atoms i ⊗ at atoms j ≡ 𝟙 → (m n : List ℕ) → factors_value R atoms n ≡ factors_value R atoms m
      → (t : Bool) → eqb a i ≡ t
      → factors_value R atoms (elim t [ true ↦ strike_against a n (remove j n) | false ↦ a ∷ n ]) ≡ at atoms a ⊗ factors_value R atoms m
  struck_first atoms i j a cancels m n is true e = struck_against atoms i j a cancels (same_number a i e) n (remove j n) (left_remove atoms j n)
      ∙ ap (λ x. at atoms a ⊗ x) is
  struck_first atoms i j a cancels m n is false e = ap (λ x. at atoms a ⊗ x) is

  -- striking one pair keeps the value
  pair_value : (atoms : List A) (i j : ℕ) → at atoms i ⊗ at atoms j ≡ 𝟙 → (m : List ℕ) → factors_value R atoms (strike_pair i j m) ≡ factors_value R atoms m
  pair_value atoms i j cancels [] = refl
  pair_value atoms i j cancels (a ∷ m) = struck_first atoms i j a cancels m (strike_pair i j m) (pair_value atoms i j cancels m) (eqb a i) refl

  -- the atoms i and i + 1 are inverse, i + 2 and i + 3, and so on, so many pairs
  Cancel : List A → ℕ → ℕ → Type 0
  Cancel atoms i zero = Unit
  Cancel atoms i (suc pairs) = (at atoms i ⊗ at atoms (suc i) ≡ 𝟙) × Cancel atoms (suc (suc i)) pairs

  -- the same one place on, where an atom stands in front
  cancel_later : (a : A) (atoms : List A) (i pairs : ℕ) → Cancel atoms i pairs → Cancel (a ∷ atoms) (suc i) pairs
  unfolding Cancel
  cancel_later a atoms i zero c = tt
  cancel_later a atoms i (suc pairs) c = (c.0, cancel_later a atoms (suc (suc i)) pairs c.1)

  -- the pairs of the list are such
  cancel_all : (pairs : List (Inverses R)) (others : List A) → Cancel (with_inverses pairs others) 0 (length pairs)
  unfolding Cancel
  cancel_all [] others = tt
  cancel_all (p ∷ pairs) others = (
    p.cancels,
    cancel_later p.item (p.inverse ∷ with_inverses pairs others) 1 (length pairs)
        (cancel_later p.inverse (with_inverses pairs others) 0 (length pairs) (cancel_all pairs others)),
  )

  -- striking all pairs keeps the value of a product
  factors_struck : (atoms : List A) (i pairs : ℕ) → Cancel atoms i pairs → (m : List ℕ)
      → factors_value R atoms (strike_factors i pairs m) ≡ factors_value R atoms m
  unfolding Cancel
  factors_struck atoms i zero c m = refl
  factors_struck atoms i (suc pairs) c m = factors_struck atoms (suc (suc i)) pairs c.1 (strike_pair i (suc i) m) ∙ pair_value atoms i (suc i) c.0 m

  -- striking keeps the value
  pub strike_value : (pairs : List (Inverses R)) (others : List A) (p : Polynomial)
      → polynomial_value R (with_inverses pairs others) (strike (length pairs) p) ≡ polynomial_value R (with_inverses pairs others) p
  strike_value pairs others [] = refl
  strike_value pairs others (term c m ∷ p) =
      add_value R (with_inverses pairs others) (term c (strike_factors 0 (length pairs) m) ∷ []) (strike (length pairs) p)
      ∙ ap₂ ◌⊕◌ (R.plus_zero _ ∙ ap (λ x. R.whole c ⊗ x) (factors_struck _ 0 (length pairs) (cancel_all pairs others) m)) (strike_value pairs others p)

  -- the struck form has the expression's value
  struck_value : (pairs : List (Inverses R)) (others : List A) (e : Expression)
      → polynomial_value R (with_inverses pairs others) (strike (length pairs) (normal e)) ≡ value R (with_inverses pairs others) e
  struck_value pairs others e = strike_value pairs others (normal e) ∙ normal_value R (with_inverses pairs others) e

  -- expressions of one struck form are equal
  pub solve_struck : (pairs : List (Inverses R)) (others : List A) (e f : Expression)
      → strike (length pairs) (normal e) ≡ strike (length pairs) (normal f) → value R (with_inverses pairs others) e ≡ value R (with_inverses pairs others) f
  solve_struck pairs others e f same = sym (struck_value pairs others e) ∙ ap (polynomial_value R (with_inverses pairs others)) same
      ∙ struck_value pairs others f

  -- an equation in a ring where the items of `pairs` have inverses: used as `by_ring` is
  pub by_field : (pairs : List (Inverses R)) (others : List A) {x y : A} (s : Sides R (with_inverses pairs others) x y)
      → strike (length pairs) (normal s.left.expression) ≡ strike (length pairs) (normal s.right.expression) → x ≡ y
  by_field pairs others s same = sym s.left.is ∙ solve_struck pairs others s.left.expression s.right.expression same ∙ s.right.is
