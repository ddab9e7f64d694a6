-- What the operations come to over a numerator and a denominator that are not reduced.
use Rattle.std.specs.Prelude.{true, false, ◌≡◌, ◌≢◌, ℕ, zero, suc, ◌*◌, ◌^◌, ◌<◌, ◌≤◌, ℤ, pos, negsuc, neg_ℤ, nat_abs, ◌+ℤ◌, ◌-ℤ◌, ◌*ℤ◌, ◌<ℤ◌, ◌≤ℤ◌}
use lib.Signed.{lt_z}
use Rattle.std.proofs.Common.{refl, sym, ap, ap₂, ◌∙◌, subst, arith, mul-pos}
use Rattle.std.proofs.lemmas.Int.{ints, unsigned_abs-mul}
use Rattle.std.proofs.Math.Nat.{le_of_mul-le-mul_right, mul-le-mul, mul-le-mul_right, mul_comm}
use Rattle.tdl_fraction.specs.Rational.{Rational, frac, whole, ◌+ℚ◌, ◌-ℚ◌, ◌*ℚ◌, ◌/ℚ◌}
use Rattle.tdl_fraction.specs.Range.{InRange}
use Rattle.tdl_fraction.proofs.Integers.{times_negate}
use Rattle.tdl_fraction.proofs.Over.{Over, Over-self, Over-frac, frac_over, Over-plus_same, Over-minus_same, Over-divide, Over-times, Over-inverse_negative}
use Rattle.tdl_fraction.proofs.Over.{Over-zero, same_over, den_positive}

-- ---- a fraction in range bounds its numerator before it is reduced
bounded : (a b p d : ℕ) → b * d ≡ a * p → 0 < p → b ≤ 2 ^ 36 * p → a ≤ 2 ^ 36 * d
bounded a b p d e h k =
    let scaled : a * p ≤ (2 ^ 36 * d) * p = omega (arith, mul-le-mul_right d k) in
    le_of_mul-le-mul_right scaled h

-- from the fraction in range
pub before_in_range : (n : ℤ) (d : ℕ) → 0 < d → InRange (frac n d) → nat_abs n ≤ 2 ^ 36 * d
before_in_range n d p h =
    let q = frac n d in
    let e : nat_abs q.num * d ≡ nat_abs n * q.den =
    sym (unsigned_abs-mul q.num (pos d)) ∙ ap nat_abs (Over-frac n d p).cross ∙ unsigned_abs-mul n (pos q.den) in
    bounded (nat_abs n) (nat_abs q.num) q.den d e (den_positive q) h.near

-- ---- sum, difference and product
pub plus_frac : (x y : Rational) → frac (x.num *ℤ pos y.den +ℤ y.num *ℤ pos x.den) (x.den * y.den) ≡ x +ℚ y
unfolding ◌+ℚ◌
plus_frac x y = refl

-- the difference by cross products
pub minus_frac : (x y : Rational) → frac (x.num *ℤ pos y.den -ℤ y.num *ℤ pos x.den) (x.den * y.den) ≡ x -ℚ y
unfolding ◌-ℚ◌
minus_frac x y = refl

-- the product of both lines
pub times_frac : (x y : Rational) → frac (x.num *ℤ y.num) (x.den * y.den) ≡ x *ℚ y
unfolding ◌*ℚ◌
times_frac x y = refl

over_other : (x y : Rational) → x.den ≡ y.den → Over y.num x.den y
over_other x y e = let P : ℕ → Type 0 = λ d. Over y.num d y in subst P (sym e) (Over-self y)

-- on one denominator
pub plus_same : (x y : Rational) → x.den ≡ y.den → frac (x.num +ℤ y.num) x.den ≡ x +ℚ y
plus_same x y e = sym (frac_over (Over-plus_same (Over-self x) (over_other x y e)))

-- the difference on one denominator
pub minus_same : (x y : Rational) → x.den ≡ y.den → frac (x.num -ℤ y.num) x.den ≡ x -ℚ y
minus_same x y e = sym (frac_over (Over-minus_same (Over-self x) (over_other x y e)))

-- the numerators' product is at most 2^124 where the product is in range
pub product_near : (x y : Rational) → InRange (x *ℚ y) → x.den ≤ 2 ^ 44 → y.den ≤ 2 ^ 44 → nat_abs (x.num *ℤ y.num) ≤ 2 ^ 124
product_near x y h k l =
    let P : Rational → Type 0 = InRange in
    let bound = before_in_range (x.num *ℤ y.num) (x.den * y.den) (mul-pos (den_positive x) (den_positive y)) (subst P (sym (times_frac x y)) h) in
    let most : x.den * y.den ≤ 2 ^ 44 * 2 ^ 44 = mul-le-mul k l in
    omega arith

-- ---- the quotient
divide_by_positive : (x y : Rational) (m : ℕ) → 0 < m → Over (pos m) y.den y → frac (x.num *ℤ pos y.den) (nat_abs (pos m *ℤ pos x.den)) ≡ x /ℚ y
divide_by_positive x y m p o =
    ap (frac (x.num *ℤ pos y.den)) (mul_comm m x.den) ∙ sym (frac_over (Over-divide (Over-self x) o p))

divide_by_negative : (x y : Rational) (m : ℕ) → Over (negsuc m) y.den y → frac (neg_ℤ (x.num *ℤ pos y.den)) (nat_abs (negsuc m *ℤ pos x.den)) ≡ x /ℚ y
unfolding ◌/ℚ◌
divide_by_negative x y m o =
    ap₂ frac (sym (times_negate x.num (pos y.den))) (unsigned_abs-mul (negsuc m) (pos x.den) ∙ mul_comm (suc m) x.den)
    ∙ sym (frac_over (Over-times (Over-self x) (Over-inverse_negative o)))

negative_factor : (n : ℤ) (d : ℕ) → (n *ℤ pos d) <ℤ pos 0 → (m : ℕ) × (n ≡ negsuc m)
negative_factor (pos a) d h = absurd (omega (arith, ints))
negative_factor (negsuc a) d h = (a, refl)

positive_factor : (n : ℤ) (d : ℕ) → 0 < d → pos 0 ≤ℤ (n *ℤ pos d) → n ≢ pos 0 → (m : ℕ) × (0 < m) × (n ≡ pos m)
positive_factor (pos zero) d p h k = absurd (k refl)
positive_factor (pos (suc a)) d p h k = (suc a, omega arith, refl)
positive_factor (negsuc a) d p h k =
    let m : 0 < suc a * d = mul-pos (omega arith) p in
    absurd (omega (arith, ints))

-- a numerator of 0 makes 0
pub zero_numerator : (x : Rational) → x.num ≡ pos 0 → x ≡ whole (pos 0)
zero_numerator x e =
    let P : ℤ → Type 0 = λ n. Over n x.den x in
    same_over (subst P e (Over-self x)) (Over-zero x.den (den_positive x))

over_num : (x : Rational) (n : ℤ) → x.num ≡ n → Over n x.den x
over_num x n e = let P : ℤ → Type 0 = λ n. Over n x.den x in subst P e (Over-self x)

-- by a number below zero
pub divide_below : (x y : Rational) (b : ℤ) → b ≡ y.num *ℤ pos x.den → b <ℤ pos 0 → frac (neg_ℤ (x.num *ℤ pos y.den)) (nat_abs b) ≡ x /ℚ y
divide_below x y b e h =
    let P : ℤ → Type 0 = λ b. b <ℤ pos 0 in
    let m = negative_factor y.num x.den (subst P e h) in
    ap (λ b. frac (neg_ℤ (x.num *ℤ pos y.den)) (nat_abs b)) (e ∙ ap (λ n. n *ℤ pos x.den) m.1) ∙ divide_by_negative x y m.0 (over_num y _ m.1)

-- by a number above zero
pub divide_above : (x y : Rational) (b : ℤ) → b ≡ y.num *ℤ pos x.den → pos 0 ≤ℤ b → y ≢ whole (pos 0) → frac (x.num *ℤ pos y.den) (nat_abs b) ≡ x /ℚ y
divide_above x y b e h k =
    let P : ℤ → Type 0 = λ b. pos 0 ≤ℤ b in
    let m = positive_factor y.num x.den (den_positive x) (subst P e h) (λ z. k (zero_numerator y z)) in
    ap (λ b. frac (x.num *ℤ pos y.den) (nat_abs b)) (e ∙ ap (λ n. n *ℤ pos x.den) m.2) ∙ divide_by_positive x y m.0 m.1 (over_num y _ m.2)

-- the numerator of a divisor is not 0
pub divisor_positive : (x y : Rational) (b : ℤ) → b ≡ y.num *ℤ pos x.den → y ≢ whole (pos 0) → 0 < nat_abs b
divisor_positive x y b e k = rw (e, unsigned_abs-mul y.num (pos x.den)) (mul-pos (size y.num (λ z. k (zero_numerator y z))) (den_positive x))
  where
    size : (n : ℤ) → n ≢ pos 0 → 0 < nat_abs n
    size (pos zero) h = absurd (h refl)
    size (pos (suc a)) h = omega arith
    size (negsuc a) h = omega arith

-- the test of a number's sign
pub below_zero : (b : ℤ) → lt_z b (pos 0) ≡ true → b <ℤ pos 0
below_zero b h = grind (arith, ints)

-- and of a number that is not below zero
pub from_zero : (b : ℤ) → lt_z b (pos 0) ≡ false → pos 0 ≤ℤ b
from_zero b h = grind (arith, ints)
