-- Expressions of a ring over numbered atoms, and their value at a list of atoms.
use Rattle.std.specs.Prelude.{ℕ, zero, suc, List, [], ◌∷◌, ℤ}
use Rattle.tdl_ring.specs.Ring.{CommutativeRing}

pub data Expression : Type 0 where
  atom : ℕ → Expression
  literal : ℤ → Expression
  sum : Expression → Expression → Expression
  difference : Expression → Expression → Expression
  product : Expression → Expression → Expression
  negation : Expression → Expression

-- the atom at a place, or `other` where the list has none
abbrev pub atom_at : {A : Type 0} → A → List A → ℕ → A
atom_at other [] i = other
atom_at other (x ∷ xs) zero = x
atom_at other (x ∷ xs) (suc i) = atom_at other xs i

abbrev pub value : {A : Type 0} → CommutativeRing A → List A → Expression → A
value R atoms (atom i) = atom_at R.zero atoms i
value R atoms (literal n) = R.whole n
value R atoms (sum e f) = R.plus (value R atoms e) (value R atoms f)
value R atoms (difference e f) = R.minus (value R atoms e) (value R atoms f)
value R atoms (product e f) = R.times (value R atoms e) (value R atoms f)
value R atoms (negation e) = R.negate (value R atoms e)
