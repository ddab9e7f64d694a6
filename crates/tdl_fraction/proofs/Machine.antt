-- What the program's sums and products of 128 bits come to, at two fractions in range.
use Rattle.std.specs.Prelude.{◌≡◌, ◌≢◌, ◌≤ℤ◌, ℕ, zero, suc, ◌*◌, ◌^◌, ◌<◌, ◌≤◌, Bool, true, false, ℤ, pos, neg_ℤ, nat_abs, ◌+ℤ◌, ◌-ℤ◌, ◌*ℤ◌, FitsSigned}
use Rattle.std.proofs.Common.{sym, ap, ap₂, ◌∙◌, subst, to_z, of_z, arith}
use Rattle.std.proofs.lemmas.Int.{ints, to_z-of_z}
use lib.Signed.{lt_z}
use mir.Syntax.{w128}
use Rattle.tdl_fraction.specs.Rational.{Rational, frac, whole, ◌+ℚ◌, ◌-ℚ◌, ◌*ℚ◌, ◌/ℚ◌}
use Rattle.tdl_fraction.specs.Range.{InRange}
use Rattle.tdl_fraction.proofs.Ranges.{nonzero_from_num}
use Rattle.tdl_fraction.proofs.Results.{below_zero, from_zero, plus_frac, plus_same, minus_frac, minus_same, times_frac, product_near, divide_below}
use Rattle.tdl_fraction.proofs.Results.{divide_above, divisor_positive, zero_numerator}
use Rattle.tdl_fraction.proofs.Words128.{near_fits, near_is, sum_is, difference_is}

near : (x : Rational) → InRange x → nat_abs x.num ≤ 2 ^ 124
near x h = omega arith

near_as : (x : Rational) (a : ℤ) → InRange x → a ≡ x.num → nat_abs a ≤ 2 ^ 124
near_as x a h e = rw e (near x h)

-- a sum or a difference on one denominator
pub plus_on_one : (x y : Rational) (a b : ℤ) (d : ℕ) → InRange x → InRange y → a ≡ x.num → b ≡ y.num → d ≡ x.den → d ≡ y.den
    → frac (to_z w128 (of_z w128 (to_z w128 (of_z w128 a) +ℤ to_z w128 (of_z w128 b)))) d ≡ x +ℚ y
plus_on_one x y a b d h k e f g l =
    ap₂ frac (sum_is a b (near_as x a h e) (near_as y b k f) ∙ ap₂ ◌+ℤ◌ e f) g ∙ plus_same x y (sym g ∙ l)

-- the difference of numerators
pub minus_on_one : (x y : Rational) (a b : ℤ) (d : ℕ) → InRange x → InRange y → a ≡ x.num → b ≡ y.num → d ≡ x.den → d ≡ y.den
    → frac (to_z w128 (of_z w128 (to_z w128 (of_z w128 a) -ℤ to_z w128 (of_z w128 b)))) d ≡ x -ℚ y
minus_on_one x y a b d h k e f g l =
    ap₂ frac (difference_is a b (near_as x a h e) (near_as y b k f) ∙ ap₂ ◌-ℤ◌ e f) g ∙ minus_same x y (sym g ∙ l)

-- and by cross products
pub plus_crossed : (x y : Rational) (a b : ℤ) (d : ℕ) → a ≡ x.num *ℤ pos y.den → b ≡ y.num *ℤ pos x.den → nat_abs a ≤ 2 ^ 124 → nat_abs b ≤ 2 ^ 124
    → d ≡ x.den * y.den → frac (to_z w128 (of_z w128 (to_z w128 (of_z w128 a) +ℤ to_z w128 (of_z w128 b)))) d ≡ x +ℚ y
plus_crossed x y a b d e f h k g = ap₂ frac (sum_is a b h k ∙ ap₂ ◌+ℤ◌ e f) g ∙ plus_frac x y

-- the difference of cross products
pub minus_crossed : (x y : Rational) (a b : ℤ) (d : ℕ) → a ≡ x.num *ℤ pos y.den → b ≡ y.num *ℤ pos x.den → nat_abs a ≤ 2 ^ 124 → nat_abs b ≤ 2 ^ 124
    → d ≡ x.den * y.den → frac (to_z w128 (of_z w128 (to_z w128 (of_z w128 a) -ℤ to_z w128 (of_z w128 b)))) d ≡ x -ℚ y
minus_crossed x y a b d e f h k g = ap₂ frac (difference_is a b h k ∙ ap₂ ◌-ℤ◌ e f) g ∙ minus_frac x y

-- a product of two numerators
product_seen : (x y : Rational) (a b : ℤ) → InRange x → InRange y → a ≡ x.num → b ≡ y.num → to_z w128 (of_z w128 a) *ℤ to_z w128 (of_z w128 b) ≡ x.num *ℤ y.num
product_seen x y a b h k e f =
    ap₂ ◌*ℤ◌ (ap (λ a. to_z w128 (of_z w128 a)) e ∙ near_is x.num (near x h)) (ap (λ b. to_z w128 (of_z w128 b)) f ∙ near_is y.num (near y k))

-- it fits where the product is in range
pub product_fits : (x y : Rational) (a b : ℤ) → InRange x → InRange y → InRange (x *ℚ y) → a ≡ x.num → b ≡ y.num
    → FitsSigned w128 (to_z w128 (of_z w128 a) *ℤ to_z w128 (of_z w128 b))
product_fits x y a b h k r e f = rw (product_seen x y a b h k e f) (near_fits _ (product_near x y r h.fine k.fine))

-- and over the product of denominators is the product
pub product_is : (x y : Rational) (a b : ℤ) (d : ℕ) → InRange x → InRange y → InRange (x *ℚ y) → a ≡ x.num → b ≡ y.num → d ≡ x.den * y.den
    → frac (to_z w128 (of_z w128 (to_z w128 (of_z w128 a) *ℤ to_z w128 (of_z w128 b)))) d ≡ x *ℚ y
product_is x y a b d h k r e f g =
    ap₂ frac (ap (λ p. to_z w128 (of_z w128 p)) (product_seen x y a b h k e f) ∙ near_is _ (product_near x y r h.fine k.fine)) g ∙ times_frac x y

-- so it does where the program's product p fits
pub product_fitting : (x y : Rational) (a b p : ℤ) (d : ℕ) → InRange x → InRange y → a ≡ x.num → b ≡ y.num → d ≡ x.den * y.den
    → FitsSigned w128 (to_z w128 (of_z w128 a) *ℤ to_z w128 (of_z w128 b)) → p ≡ to_z w128 (of_z w128 a) *ℤ to_z w128 (of_z w128 b)
    → frac (to_z w128 (of_z w128 p)) d ≡ x *ℚ y
product_fitting x y a b p d h k e f g fits q =
    ap₂ frac (ap (λ p. to_z w128 (of_z w128 p)) q ∙ to_z-of_z w128 _ fits ∙ product_seen x y a b h k e f) g ∙ times_frac x y

-- ---- the divisor's numerator, tested for 0
pub zero_seen : (y : Rational) (b : ℤ) → InRange y → b ≡ y.num → of_z w128 b ≡ 0 → y ≡ whole (pos 0)
zero_seen y b h e z = zero_numerator y (sym e ∙ sym (near_is b (near_as y b h e)) ∙ ap (to_z w128) z)

pub nonzero_seen : (y : Rational) (b : ℤ) → b ≡ y.num → of_z w128 b ≢ 0 → y ≢ whole (pos 0)
nonzero_seen y b e n = nonzero_from_num y (λ z. n (ap (of_z w128) (e ∙ z)))

-- a numerator that is a word is one from 0 on
pub word_seen : (y : Rational) (b : ℤ) (m : ℕ) → InRange y → b ≡ y.num → pos 0 ≤ℤ to_z w128 (of_z w128 b) → m ≡ nat_abs (to_z w128 (of_z w128 b))
    → y.num ≡ pos m
word_seen y b m h e low size =
    let seen : to_z w128 (of_z w128 b) ≡ y.num = near_is b (near_as y b h e) ∙ e in
    sized y.num m (subst (λ n. pos 0 ≤ℤ n) seen low) (size ∙ ap nat_abs seen)
  where
    sized : (n : ℤ) (m : ℕ) → pos 0 ≤ℤ n → m ≡ nat_abs n → n ≡ pos m
    sized n m h e = omega (arith, ints)

-- and that of a divisor is above 0
pub word_positive : (y : Rational) (m : ℕ) → y.num ≡ pos m → y ≢ whole (pos 0) → 0 < m
word_positive y zero e h = absurd (h (zero_numerator y e))
word_positive y (suc m) e h = omega arith

-- the test of a number's sign
sign_seen : (b : ℤ) (t : Bool) → nat_abs b ≤ 2 ^ 124 → lt_z (to_z w128 (of_z w128 b)) (pos 0) ≡ t → lt_z b (pos 0) ≡ t
sign_seen b t h e = ap (λ b. lt_z b (pos 0)) (sym (near_is b h)) ∙ e

-- a quotient by a number below zero, and by one above
pub quotient_below : (x y : Rational) (a b : ℤ) (d : ℕ) → a ≡ x.num *ℤ pos y.den → b ≡ y.num *ℤ pos x.den → nat_abs a ≤ 2 ^ 124 → nat_abs b ≤ 2 ^ 124
    → lt_z (to_z w128 (of_z w128 b)) (pos 0) ≡ true → d ≡ nat_abs (to_z w128 (of_z w128 b))
    → frac (to_z w128 (of_z w128 (pos 0 -ℤ to_z w128 (of_z w128 a)))) d ≡ x /ℚ y
quotient_below x y a b d e f h k s g =
    ap₂ frac (negated a h ∙ ap neg_ℤ e) (g ∙ ap nat_abs (near_is b k)) ∙ divide_below x y b f (below_zero b (sign_seen b true k s))
  where
    negated : (a : ℤ) → nat_abs a ≤ 2 ^ 124 → to_z w128 (of_z w128 (pos 0 -ℤ to_z w128 (of_z w128 a))) ≡ neg_ℤ a
    negated a h = omega (arith, ints)

-- by a number above zero
pub quotient_above : (x y : Rational) (a b : ℤ) (d : ℕ) → a ≡ x.num *ℤ pos y.den → b ≡ y.num *ℤ pos x.den → nat_abs a ≤ 2 ^ 124 → nat_abs b ≤ 2 ^ 124
    → lt_z (to_z w128 (of_z w128 b)) (pos 0) ≡ false → d ≡ nat_abs (to_z w128 (of_z w128 b)) → y ≢ whole (pos 0) → frac (to_z w128 (of_z w128 a)) d ≡ x /ℚ y
quotient_above x y a b d e f h k s g n =
    ap₂ frac (near_is a h ∙ e) (g ∙ ap nat_abs (near_is b k)) ∙ divide_above x y b f (from_zero b (sign_seen b false k s)) n

-- the new denominator is positive
pub quotient_positive : (x y : Rational) (b : ℤ) (d : ℕ) → b ≡ y.num *ℤ pos x.den → nat_abs b ≤ 2 ^ 124 → d ≡ nat_abs (to_z w128 (of_z w128 b))
    → y ≢ whole (pos 0) → 0 < d
quotient_positive x y b d f k g n = rw (g, near_is b k) (divisor_positive x y b f n)
