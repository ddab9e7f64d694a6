-- Products with pairs of atoms struck out: the atoms 0 and 1 are inverse to each other, 2 and 3, and so on.
use Rattle.std.specs.Prelude.{◌≡◌, ℕ, zero, suc, List, [], ◌∷◌, true, false, eqb}
use Rattle.tdl_ring.specs.Ring.{CommutativeRing}
use Rattle.tdl_ring.specs.Normal.{term, Polynomial, add}

-- an item and its inverse
pub record Inverses {A : Type 0} (R : CommutativeRing A) : Type 0 where
  pub item : A
  pub inverse : A
  pub cancels : R.times item inverse ≡ R.one

-- such a pair
abbrev pub inverses : {A : Type 0} {R : CommutativeRing A} (x v : A) → R.times x v ≡ R.one → Inverses R
inverses x v e = record { item = x; inverse = v; cancels = e }

-- the items, each with its inverse behind it, and then the other atoms
abbrev pub with_inverses : {A : Type 0} {R : CommutativeRing A} → List (Inverses R) → List A → List A
with_inverses [] others = others
with_inverses (p ∷ pairs) others = p.item ∷ p.inverse ∷ with_inverses pairs others

pub data Found : Type 0 where
  absent : Found
  without : List ℕ → Found

-- one factor more in front of what was found
abbrev pub in_front : ℕ → Found → Found
in_front a absent = absent
in_front a (without m) = without (a ∷ m)

-- a product with one factor fewer
abbrev pub remove : ℕ → List ℕ → Found
remove j [] = absent
remove j (a ∷ m) = elim (eqb a j) [ true ↦ without m | false ↦ in_front a (remove j m) ]

-- `m` with a factor `a` in front, which goes with the factor j if there is one
abbrev pub strike_against : ℕ → List ℕ → Found → List ℕ
strike_against a m absent = a ∷ m
strike_against a m (without n) = n

-- each factor i goes with a factor j behind it, while there are both
abbrev pub strike_pair : ℕ → ℕ → List ℕ → List ℕ
strike_pair i j [] = []
strike_pair i j (a ∷ m) = let n = strike_pair i j m in elim (eqb a i) [ true ↦ strike_against a n (remove j n) | false ↦ a ∷ n ]

-- so many pairs, from the atom i on
abbrev pub strike_factors : ℕ → ℕ → List ℕ → List ℕ
strike_factors i zero m = m
strike_factors i (suc pairs) m = strike_factors (suc (suc i)) pairs (strike_pair i (suc i) m)

-- every term with its pairs struck out
abbrev pub strike : ℕ → Polynomial → Polynomial
strike pairs [] = []
strike pairs (term c m ∷ p) = add (term c (strike_factors 0 pairs m) ∷ []) (strike pairs p)
