-- Worked uses of the solver.
use Rattle.std.proofs.Common.{◌≡◌, ℕ, suc, ◌+◌, ◌*◌, [], ◌∷◌, ℤ, pos, negsuc, ◌+ℤ◌, ◌-ℤ◌, ◌*ℤ◌, neg_ℤ, refl}
use Rattle.tdl_ring.specs.Ring.{CommutativeRing}
use Rattle.tdl_ring.specs.Expression.{atom, sum, product}
use Rattle.tdl_ring.proofs.Integers.{integers}
use Rattle.tdl_ring.proofs.Sound.{solve}
use Rattle.tdl_ring.proofs.Quoting.{by_ring, ring, wholes}
use Rattle.tdl_ring.proofs.Combination.{by_combination, by_combinations}
use Rattle.tdl_ring.specs.Pairs.{inverses}
use Rattle.tdl_ring.proofs.Inverses.{by_field}

-- the expressions written by hand
by_hand : (a b c : ℤ) → (a +ℤ b) *ℤ c ≡ c *ℤ b +ℤ a *ℤ c
by_hand a b c = solve integers (a ∷ b ∷ c ∷ []) (product (sum (atom 0) (atom 1)) (atom 2)) (sum (product (atom 2) (atom 1)) (product (atom 0) (atom 2))) refl

found : (a b c : ℤ) → (a +ℤ b) *ℤ c ≡ c *ℤ b +ℤ a *ℤ c
found a b c = by_ring integers (a ∷ b ∷ c ∷ []) (search ring depth 12) refl

with_numerals : (a b c : ℤ) → (a +ℤ b) *ℤ (a -ℤ b) +ℤ pos 2 *ℤ c ≡ c +ℤ a *ℤ a -ℤ b *ℤ b +ℤ c
with_numerals a b c = by_ring integers (a ∷ b ∷ c ∷ []) (search ring depth 12) refl

square : (a b c : ℤ) → (a +ℤ b +ℤ c) *ℤ (a +ℤ b +ℤ c) ≡ a *ℤ a +ℤ b *ℤ b +ℤ c *ℤ c +ℤ pos 2 *ℤ (a *ℤ b +ℤ b *ℤ c +ℤ c *ℤ a)
square a b c = by_ring integers (a ∷ b ∷ c ∷ []) (search ring depth 12) refl

with_an_atom_of_its_own : (a b : ℤ) (n : ℕ) → (a +ℤ negsuc 4 *ℤ b) *ℤ pos n ≡ pos n *ℤ a -ℤ pos n *ℤ pos 5 *ℤ b
with_an_atom_of_its_own a b n = by_ring integers (a ∷ b ∷ pos n ∷ []) (search ring depth 12) refl

with_negation : (a b : ℤ) → neg_ℤ (a -ℤ b) *ℤ neg_ℤ a ≡ a *ℤ a -ℤ b *ℤ a
with_negation a b = by_ring integers (a ∷ b ∷ []) (search ring depth 12) refl

among_naturals : (a b c : ℕ) → pos (suc (a + b) * c) ≡ pos (c * b + a * c + c)
among_naturals a b c = by_ring integers (pos a ∷ pos b ∷ pos c ∷ []) (search ring depth 12) refl

in_any_ring : {A : Type 0} (R : CommutativeRing A) (a b c : A)
    → R.times (R.plus a b) (R.minus c R.one) ≡ R.minus (R.plus (R.times c b) (R.times a c)) (R.plus a b)
in_any_ring R a b c = by_ring R (a ∷ b ∷ c ∷ []) (search ring depth 12) refl

whole_numbers_in_any_ring : {A : Type 0} (R : CommutativeRing A) (a : A) → R.times (R.whole (pos 3)) a ≡ R.plus a (R.plus a a)
whole_numbers_in_any_ring R a = by_ring R (a ∷ []) (search ring depth 12) refl

-- V is the inverse of W
struck_out : {A : Type 0} (R : CommutativeRing A) (c o t w W V : A) → R.times W V ≡ R.one
    → R.times (R.minus (R.plus c (R.times (R.plus o (R.times (R.minus t c) w)) V)) c) W ≡ R.plus o (R.times (R.minus t c) w)
struck_out R c o t w W V e = by_field R (inverses W V e ∷ []) (c ∷ o ∷ t ∷ w ∷ []) (search ring depth 12) refl

two_pairs : {A : Type 0} (R : CommutativeRing A) (a x v y u : A) → R.times x v ≡ R.one → R.times y u ≡ R.one
    → R.times (R.times (R.times a u) (R.times v y)) x ≡ a
two_pairs R a x v y u e f = by_field R (inverses x v e ∷ inverses y u f ∷ []) (a ∷ []) (search ring depth 12) refl

from_a_hypothesis : (a b c : ℤ) → a ≡ b +ℤ c → a *ℤ a -ℤ b *ℤ a ≡ c *ℤ a
from_a_hypothesis a b c h = by_combination integers (a ∷ b ∷ c ∷ []) a h (search ring depth 12) refl

from_two_hypotheses : (a b c d : ℤ) → a ≡ b → c ≡ d → a *ℤ c ≡ b *ℤ d
from_two_hypotheses a b c d h g = by_combinations integers (a ∷ b ∷ c ∷ d ∷ []) c h b g (search ring depth 12) refl

-- sums of whole numbers in another ring
the_next_whole_number : {A : Type 0} (R : CommutativeRing A) (a : A) (c : ℤ) (n : ℕ)
    → R.times a (R.plus (R.whole (c -ℤ pos 1)) (R.whole (pos (suc n)))) ≡ R.plus (R.times (R.whole c) a) (R.times a (R.whole (pos n)))
the_next_whole_number R a c n = by_ring R (a ∷ R.whole c ∷ R.whole (pos n) ∷ []) (search (ring, wholes) depth 12) refl
