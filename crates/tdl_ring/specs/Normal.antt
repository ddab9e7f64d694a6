-- The normal form of an expression: a sum of terms in order, each a whole number times a product of atoms in order.
use Rattle.std.specs.Prelude.{ℕ, zero, suc, List, [], ◌∷◌, ℤ, pos, negsuc, ◌+ℤ◌, ◌*ℤ◌, neg_ℤ, true, false, ltb, eqb}
use Rattle.tdl_ring.specs.Expression.{Expression, atom, literal, sum, difference, product, negation}

-- `term c m` is c times the product of the atoms in m
pub data Term : Type 0 where
  term : ℤ → List ℕ → Term

-- terms, to be added
abbrev pub Polynomial : Type 0
Polynomial = List Term

pub data Order : Type 0 where
  less equal greater : Order

-- which of two numbers is less
abbrev pub order_of : ℕ → ℕ → Order
order_of a b = elim (ltb a b) [ true ↦ less | false ↦ elim (eqb a b) [ true ↦ equal | false ↦ greater ] ]

-- products of fewer atoms come first; among as many the first difference decides, which `found` holds once it is met
abbrev pub compare_factors : Order → List ℕ → List ℕ → Order
compare_factors found [] [] = found
compare_factors found [] (b ∷ n) = less
compare_factors found (a ∷ m) [] = greater
compare_factors less (a ∷ m) (b ∷ n) = compare_factors less m n
compare_factors greater (a ∷ m) (b ∷ n) = compare_factors greater m n
compare_factors equal (a ∷ m) (b ∷ n) = compare_factors (order_of a b) m n

-- a product of atoms times another, in order
abbrev pub factors_onto : ℕ → (List ℕ → List ℕ) → List ℕ → List ℕ
factors_onto a rest [] = a ∷ rest []
factors_onto a rest (b ∷ n) = elim (ltb b a) [ true ↦ b ∷ factors_onto a rest n | false ↦ a ∷ rest (b ∷ n) ]

abbrev pub multiply_factors : List ℕ → List ℕ → List ℕ
multiply_factors [] n = n
multiply_factors (a ∷ m) n = factors_onto a (multiply_factors m) n

-- a term in front, unless its number is 0
abbrev pub prepend : ℤ → List ℕ → Polynomial → Polynomial
prepend (pos zero) m p = p
prepend (pos (suc c)) m p = term (pos (suc c)) m ∷ p
prepend (negsuc c) m p = term (negsuc c) m ∷ p

-- a term in its place, after which `rest` adds what is behind it
abbrev pub terms_onto : Term → (Polynomial → Polynomial) → Polynomial → Polynomial
terms_onto t rest [] = t ∷ rest []
terms_onto (term c m) rest (term d n ∷ q) = elim (compare_factors equal m n) [
  | less ↦ term c m ∷ rest (term d n ∷ q)
  | equal ↦ prepend (c +ℤ d) m (rest q)
  | greater ↦ term d n ∷ terms_onto (term c m) rest q
]

-- a sum
abbrev pub add : Polynomial → Polynomial → Polynomial
add [] q = q
add (t ∷ p) q = terms_onto t (add p) q

-- the opposite
abbrev pub negated : Polynomial → Polynomial
negated [] = []
negated (term c m ∷ p) = term (neg_ℤ c) m ∷ negated p

-- c times the atoms m, times each term
abbrev pub scale : ℤ → List ℕ → Polynomial → Polynomial
scale c m [] = []
scale c m (term d n ∷ q) = term (c *ℤ d) (multiply_factors m n) ∷ scale c m q

-- a product
abbrev pub multiply : Polynomial → Polynomial → Polynomial
multiply [] q = []
multiply (term c m ∷ p) q = add (scale c m q) (multiply p q)

-- the normal form
abbrev pub normal : Expression → Polynomial
normal (atom i) = term (pos 1) (i ∷ []) ∷ []
normal (literal n) = prepend n [] []
normal (sum e f) = add (normal e) (normal f)
normal (difference e f) = add (normal e) (negated (normal f))
normal (product e f) = multiply (normal e) (normal f)
normal (negation e) = negated (normal e)
