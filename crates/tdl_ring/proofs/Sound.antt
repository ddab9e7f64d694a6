-- The normal form of an expression has the expression's value, so expressions of one normal form are equal.
use Rattle.std.proofs.Common.{◌≡◌, ℕ, zero, suc, List, [], ◌∷◌, ℤ, pos, negsuc, ◌+ℤ◌, Bool, true, false, T, ltb, eqb, eqb→eq, refl, sym, ap, ap₂, subst, ◌∙◌}
use Rattle.tdl_ring.specs.Ring.{CommutativeRing}
use Rattle.tdl_ring.specs.Expression.{Expression, atom, literal, sum, difference, product, negation, atom_at, value}
use Rattle.tdl_ring.specs.Normal.{term, Polynomial, Order, less, equal, greater, compare_factors, factors_onto, multiply_factors, prepend, terms_onto, add}
use Rattle.tdl_ring.specs.Normal.{negated, scale, multiply, normal}
use Rattle.tdl_ring.proofs.Laws as laws

-- ---- comparisons

-- this comparison says that both are the same
Same : Order → Type 0
Same less = ⊥
Same equal = Unit
Same greater = ⊥

-- it does at `equal`
equal_is : Same equal
unfolding Same
equal_is = tt

-- a product that was less at its first difference is not the same
less_stays : (m n : List ℕ) → Same (compare_factors less m n) → ⊥
unfolding Same
less_stays [] [] e = e
less_stays [] (b ∷ n) e = e
less_stays (a ∷ m) [] e = e
less_stays (a ∷ m) (b ∷ n) e = less_stays m n e

-- nor is one that was greater
greater_stays : (m n : List ℕ) → Same (compare_factors greater m n) → ⊥
unfolding Same
greater_stays [] [] e = e
greater_stays [] (b ∷ n) e = e
greater_stays (a ∷ m) [] e = e
greater_stays (a ∷ m) (b ∷ n) e = greater_stays m n e

-- products with a first factor each
order_by : (a b : ℕ) (t s : Bool) → eqb a b ≡ s → (m n : List ℕ) → (Same (compare_factors equal m n) → m ≡ n)
    → Same (compare_factors (elim t [ true ↦ less | false ↦ elim s [ true ↦ equal | false ↦ greater ] ]) m n) → a ∷ m ≡ b ∷ n
order_by a b true s e m n rest h = absurd (less_stays m n h)
order_by a b false true e m n rest h = ap₂ ◌∷◌ (eqb→eq a b (subst T (sym e) tt)) (rest h)
order_by a b false false e m n rest h = absurd (greater_stays m n h)

-- products that compare as equal are the same
same_factors : (m n : List ℕ) → Same (compare_factors equal m n) → m ≡ n
unfolding Same
same_factors [] [] h = refl
same_factors [] (b ∷ n) h = absurd h
same_factors (a ∷ m) [] h = absurd h
same_factors (a ∷ m) (b ∷ n) h = order_by a b (ltb a b) (eqb a b) refl m n (same_factors m n) h

module _ {A : Type 0} (R : CommutativeRing A) (atoms : List A) where
  infixl 60 ◌⊕◌
  infixl 70 ◌⊗◌
  open R use {zero as 𝟘, one as 𝟙, plus as ◌⊕◌, times as ◌⊗◌, negate as opposite}

  -- ---- the value of a product of atoms, and of a polynomial
  -- the product of the atoms at these places
  abbrev pub factors_value : List ℕ → A
  factors_value [] = 𝟙
  factors_value (i ∷ m) = atom_at 𝟘 atoms i ⊗ factors_value m

  -- the sum of the terms
  abbrev pub polynomial_value : Polynomial → A
  polynomial_value [] = 𝟘
  polynomial_value (term c m ∷ p) = (R.whole c ⊗ factors_value m) ⊕ polynomial_value p

  -- ---- products of atoms
  -- a factor x stands before or behind the factor b
  place_factor : (x y : A) (a b : ℕ) (n rest later : List ℕ) → factors_value later ≡ (x ⊗ y) ⊗ factors_value n
      → factors_value rest ≡ y ⊗ (atom_at 𝟘 atoms b ⊗ factors_value n) → atom_at 𝟘 atoms a ≡ x
      → (t : Bool) → factors_value (elim t [ true ↦ b ∷ later | false ↦ a ∷ rest ]) ≡ (x ⊗ y) ⊗ (atom_at 𝟘 atoms b ⊗ factors_value n)
  place_factor x y a b n rest later e f g true = ap (λ z. atom_at 𝟘 atoms b ⊗ z) e ∙ laws.times_left_comm R _ _ _
  place_factor x y a b n rest later e f g false = ap₂ ◌⊗◌ g f ∙ sym (R.times_assoc _ _ _)

  -- one factor more, in order
  one_onto : (a : ℕ) (rest : List ℕ → List ℕ) (y : A) → ((n : List ℕ) → factors_value (rest n) ≡ y ⊗ factors_value n)
      → (n : List ℕ) → factors_value (factors_onto a rest n) ≡ (atom_at 𝟘 atoms a ⊗ y) ⊗ factors_value n
  one_onto a rest y is [] = ap (λ x. atom_at 𝟘 atoms a ⊗ x) (is []) ∙ sym (R.times_assoc _ _ _)
  one_onto a rest y is (b ∷ n) = place_factor (atom_at 𝟘 atoms a) y a b n (rest (b ∷ n)) (factors_onto a rest n) (one_onto a rest y is n) (is (b ∷ n)) refl
      (ltb b a)

  -- two products in one
  pub factors_product : (m n : List ℕ) → factors_value (multiply_factors m n) ≡ factors_value m ⊗ factors_value n
  factors_product [] n = sym (laws.one_times R (factors_value n))
  factors_product (a ∷ m) n = one_onto a (multiply_factors m) (factors_value m) (factors_product m) n

  -- ---- sums
  -- a term in front, also where its number is 0
  pub prepend_value : (c : ℤ) (m : List ℕ) (p : Polynomial) → polynomial_value (prepend c m p) ≡ (R.whole c ⊗ factors_value m) ⊕ polynomial_value p
  prepend_value (pos zero) m p =
      sym (ap (λ x. (x ⊗ factors_value m) ⊕ polynomial_value p) R.whole_zero ∙ ap (λ x. x ⊕ polynomial_value p) (laws.zero_times R (factors_value m))
      ∙ laws.zero_plus R (polynomial_value p))
  prepend_value (pos (suc c)) m p = refl
  prepend_value (negsuc c) m p = refl

  -- two terms of one product
  joined : (c d : ℤ) (m : List ℕ) → R.whole (c +ℤ d) ⊗ factors_value m ≡ (R.whole c ⊗ factors_value m) ⊕ (R.whole d ⊗ factors_value m)
  joined c d m = ap (λ x. x ⊗ factors_value m) (R.whole_plus c d) ∙ laws.plus_times R _ _ _

  -- a term stands before another, joins it or stands behind
  place_term : (c d : ℤ) (m n : List ℕ) (y : A) (q all rest later : Polynomial)
      → polynomial_value all ≡ y ⊕ ((R.whole d ⊗ factors_value n) ⊕ polynomial_value q)
      → polynomial_value rest ≡ y ⊕ polynomial_value q
      → polynomial_value later ≡ ((R.whole c ⊗ factors_value m) ⊕ y) ⊕ polynomial_value q
      → (o : Order) → (Same o → m ≡ n)
      → polynomial_value (elim o [ less ↦ term c m ∷ all | equal ↦ prepend (c +ℤ d) m rest | greater ↦ term d n ∷ later ])
      ≡ ((R.whole c ⊗ factors_value m) ⊕ y) ⊕ ((R.whole d ⊗ factors_value n) ⊕ polynomial_value q)
  place_term c d m n y q all rest later e f g less s = ap (λ z. (R.whole c ⊗ factors_value m) ⊕ z) e ∙ sym (R.plus_assoc _ _ _)
  place_term c d m n y q all rest later e f g equal s = prepend_value (c +ℤ d) m rest ∙ ap₂ ◌⊕◌ (joined c d m) f ∙ laws.plus_exchange R _ _ _ _
      ∙ ap (λ k. ((R.whole c ⊗ factors_value m) ⊕ y) ⊕ ((R.whole d ⊗ factors_value k) ⊕ polynomial_value q)) (s equal_is)
  place_term c d m n y q all rest later e f g greater s = ap (λ z. (R.whole d ⊗ factors_value n) ⊕ z) g ∙ laws.plus_left_comm R _ _ _

  -- one term more, in order
  term_onto : (c : ℤ) (m : List ℕ) (rest : Polynomial → Polynomial) (y : A) → ((q : Polynomial) → polynomial_value (rest q) ≡ y ⊕ polynomial_value q)
      → (q : Polynomial) → polynomial_value (terms_onto (term c m) rest q) ≡ ((R.whole c ⊗ factors_value m) ⊕ y) ⊕ polynomial_value q
  term_onto c m rest y is [] = ap (λ x. (R.whole c ⊗ factors_value m) ⊕ x) (is []) ∙ sym (R.plus_assoc _ _ _)
  term_onto c m rest y is (term d n ∷ q) = place_term c d m n y q (rest (term d n ∷ q)) (rest q) (terms_onto (term c m) rest q) (is (term d n ∷ q)) (is q)
      (term_onto c m rest y is q) (compare_factors equal m n) (same_factors m n)

  -- the sum of two polynomials
  pub add_value : (p q : Polynomial) → polynomial_value (add p q) ≡ polynomial_value p ⊕ polynomial_value q
  add_value [] q = sym (laws.zero_plus R (polynomial_value q))
  add_value (term c m ∷ p) q = term_onto c m (add p) (polynomial_value p) (add_value p) q

  -- the opposite of a polynomial
  pub negated_value : (p : Polynomial) → polynomial_value (negated p) ≡ opposite (polynomial_value p)
  negated_value [] = sym (laws.negate_zero R)
  negated_value (term c m ∷ p) = ap₂ ◌⊕◌ (ap (λ x. x ⊗ factors_value m) (laws.whole_negate R c) ∙ sym (laws.negate_product R _ _)) (negated_value p)
      ∙ sym (laws.negate_sum R _ _)

  -- ---- products
  -- a polynomial times a term
  pub scale_value : (c : ℤ) (m : List ℕ) (q : Polynomial) → polynomial_value (scale c m q) ≡ (R.whole c ⊗ factors_value m) ⊗ polynomial_value q
  scale_value c m [] = sym (laws.times_zero R _)
  scale_value c m (term d n ∷ q) = ap₂ ◌⊕◌ (ap₂ ◌⊗◌ (R.whole_times c d) (factors_product m n) ∙ laws.times_exchange R _ _ _ _) (scale_value c m q)
      ∙ sym (R.times_plus _ _ _)

  -- the product of two polynomials
  pub multiply_value : (p q : Polynomial) → polynomial_value (multiply p q) ≡ polynomial_value p ⊗ polynomial_value q
  multiply_value [] q = sym (laws.zero_times R _)
  multiply_value (term c m ∷ p) q = add_value (scale c m q) (multiply p q) ∙ ap₂ ◌⊕◌ (scale_value c m q) (multiply_value p q) ∙ sym (laws.plus_times R _ _ _)

  -- the normal form has the expression's value
  pub normal_value : (e : Expression) → polynomial_value (normal e) ≡ value R atoms e
  normal_value (atom i) = R.plus_zero _ ∙ ap₂ ◌⊗◌ R.whole_one (R.times_one _) ∙ laws.one_times R _
  normal_value (literal n) = prepend_value n [] [] ∙ R.plus_zero _ ∙ R.times_one _
  normal_value (sum e f) = add_value (normal e) (normal f) ∙ ap₂ ◌⊕◌ (normal_value e) (normal_value f)
  normal_value (difference e f) = add_value (normal e) (negated (normal f))
      ∙ ap₂ ◌⊕◌ (normal_value e) (negated_value (normal f) ∙ ap opposite (normal_value f)) ∙ sym (R.minus_is _ _)
  normal_value (product e f) = multiply_value (normal e) (normal f) ∙ ap₂ ◌⊗◌ (normal_value e) (normal_value f)
  normal_value (negation e) = negated_value (normal e) ∙ ap opposite (normal_value e)

  -- expressions of one normal form are equal
  pub solve : (e f : Expression) → normal e ≡ normal f → value R atoms e ≡ value R atoms f
  solve e f same = sym (normal_value e) ∙ ap polynomial_value same ∙ normal_value f
