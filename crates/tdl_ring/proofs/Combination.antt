-- Equations that follow from others by multiplying and adding them, and factors taken off.
use Rattle.std.proofs.Common.{◌≡◌, ◌≢◌, ℕ, zero, suc, ◌*◌, List, [], ◌∷◌, ℤ, pos, negsuc, ◌-ℤ◌, ◌*ℤ◌, arith, refl, sym, ap, ap₂, ◌∙◌}
use borrow.Author.Differences.{same_out, neg_is}
use Rattle.tdl_ring.specs.Ring.{CommutativeRing}
use Rattle.tdl_ring.specs.Normal.{normal}
use Rattle.tdl_ring.proofs.Integers.{integers}
use Rattle.tdl_ring.proofs.Laws as laws
use Rattle.tdl_ring.proofs.Quoting.{Sides, by_ring, ring}

module _ {A : Type 0} (R : CommutativeRing A) where
  -- a multiple of a difference that is nothing is nothing
  multiple_of_nothing : (k : A) {a b : A} → a ≡ b → R.times k (R.minus a b) ≡ R.zero
  multiple_of_nothing k {a} {b} h = ap (R.times k) (laws.minus_same R a b h) ∙ laws.times_zero R k

  -- from a ≡ b, where x - y is k times a - b
  pub equal_by_multiple : (k : A) {a b x y : A} → a ≡ b → R.minus x y ≡ R.times k (R.minus a b) → x ≡ y
  equal_by_multiple k {x = x} {y = y} h e = laws.equal_by_difference R x y (e ∙ multiple_of_nothing k h)

  -- from a ≡ b and c ≡ d, where x - y is k times a - b and l times c - d
  pub equal_by_multiples : (k : A) {a b : A} → a ≡ b → (l : A) {c d : A} → c ≡ d → {x y : A}
      → R.minus x y ≡ R.plus (R.times k (R.minus a b)) (R.times l (R.minus c d)) → x ≡ y
  equal_by_multiples k h l g {x} {y} e = laws.equal_by_difference R x y
      (e ∙ ap₂ R.plus (multiple_of_nothing k h) (multiple_of_nothing l g) ∙ R.plus_zero R.zero)

  -- the same, with the difference compared by the solver
  pub by_combination : (atoms : List A) (k : A) {a b : A} → a ≡ b → {x y : A} (s : Sides R atoms (R.minus x y) (R.times k (R.minus a b)))
      → normal s.left.expression ≡ normal s.right.expression → x ≡ y
  by_combination atoms k h s same = equal_by_multiple k h (by_ring R atoms s same)

  -- from two equations, with the difference compared by the solver
  pub by_combinations : (atoms : List A) (k : A) {a b : A} → a ≡ b → (l : A) {c d : A} → c ≡ d → {x y : A}
      (s : Sides R atoms (R.minus x y) (R.plus (R.times k (R.minus a b)) (R.times l (R.minus c d))))
      → normal s.left.expression ≡ normal s.right.expression → x ≡ y
  by_combinations atoms k h l g s same = equal_by_multiples k h l g (by_ring R atoms s same)

  -- a factor that has an inverse can be taken off
  pub cancel_by_inverse : (c v : A) → R.times c v ≡ R.one → {x y : A} → R.times c x ≡ R.times c y → x ≡ y
  cancel_by_inverse c v cancels {x} {y} e = sym (back x) ∙ ap (R.times v) e ∙ back y
    where
      back : (z : A) → R.times v (R.times c z) ≡ z
      back z = sym (R.times_assoc v c z) ∙ ap (λ w. R.times w z) (R.times_comm v c ∙ cancels) ∙ laws.one_times R z

-- ---- the integers have no divisors of zero
-- where a product is 0 and one factor is not, the other is
zero_factor : (c z : ℤ) → c *ℤ z ≡ pos 0 → c ≢ pos 0 → z ≡ pos 0
zero_factor c (pos zero) e n = refl
zero_factor (pos zero) (pos (suc z)) e n = absurd (n refl)
zero_factor (pos (suc c)) (pos (suc z)) e n = absurd (omega (arith, same_out _ _ e))
zero_factor (negsuc c) (pos (suc z)) e n = absurd (omega (arith, same_out _ _ e, neg_is (pos (suc c * suc z))))
zero_factor (pos zero) (negsuc z) e n = absurd (n refl)
zero_factor (pos (suc c)) (negsuc z) e n = absurd (omega (arith, same_out _ _ e, neg_is (pos (suc c * suc z))))
zero_factor (negsuc c) (negsuc z) e n = absurd (omega (arith, same_out _ _ e))

-- a factor other than 0 can be taken off
pub int_cancel : (c : ℤ) {x y : ℤ} → c ≢ pos 0 → c *ℤ x ≡ c *ℤ y → x ≡ y
int_cancel c {x} {y} n e = laws.equal_by_difference integers x y
    (zero_factor c (x -ℤ y) (by_ring integers (c ∷ x ∷ y ∷ []) (search ring depth 12) refl ∙ laws.minus_same integers (c *ℤ x) (c *ℤ y) e) n)

-- a natural number other than 0 can be taken off
pub pos_cancel : (c : ℕ) {x y : ℤ} → c ≢ 0 → pos c *ℤ x ≡ pos c *ℤ y → x ≡ y
pos_cancel c n e = int_cancel (pos c) (λ same. n (same_out _ _ same).0) e
