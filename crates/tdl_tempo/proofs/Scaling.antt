-- Quotients of times from 0 on, rounded down.
use Rattle.std.proofs.Common.{◌≡◌, ℕ, ◌*◌, ◌/◌, ◌<◌, ◌≤◌, ◌^◌, ℤ, pos, nat_abs, ◌*ℤ◌, ◌≤ℤ◌, ◌<ℤ◌, to_z, of_z, sym, ap, ◌∙◌, subst, arith}
use Rattle.std.proofs.lemmas.Int.{ints}
use Rattle.std.proofs.Math.Nat.{div-le_self, mul-le-mul, mul-one}
use Rattle.std.specs.Int.{int_div_euclid}
use mir.Syntax.{w128}
use Rattle.tdl_fraction.specs.Rational.{Rational, whole, ◌*ℚ◌, ◌/ℚ◌, ◌≤ℚ◌, ◌<ℚ◌, floor}
use Rattle.tdl_fraction.specs.Range.{InRange}
use Rattle.tdl_fraction.proofs.Words128.{near_is}
use Rattle.tdl_fraction.proofs.Over.{Over, Over-self, Over-zero, Over-whole, Over-times, Over-divide, Over-floor, den_positive, num_from_le, num_from_lt}

-- the size of a numerator, as the program takes it
near : (x : Rational) → InRange x → nat_abs x.num ≤ 2 ^ 124
near x h = omega arith

pub size_is : (x : Rational) (n : ℤ) (s : ℕ) → InRange x → n ≡ x.num → s ≡ nat_abs (to_z w128 (of_z w128 n)) → s ≡ nat_abs x.num
size_is x n s h e f =
    let k : nat_abs n ≤ 2 ^ 124 = rw e (near x h) in
    f ∙ ap nat_abs (near_is n k ∙ e)

-- a number from 0 on is its size over its denominator
natural : (a : ℤ) → pos 0 ≤ℤ a → a ≡ pos (nat_abs a)
natural a h = omega (arith, ints)

over_size : (t : Rational) → whole (pos 0) ≤ℚ t → Over (pos (nat_abs t.num)) t.den t
over_size t h =
    subst (λ a. Over a t.den t) (natural t.num (num_from_le (Over-zero t.den (den_positive t)) (Over-self t) h)) (Over-self t)

-- a number above 0 has a size above 0
size_above : (a : ℤ) → pos 0 <ℤ a → 0 < nat_abs a
size_above a h = omega (arith, ints)

pub size_positive : (t : Rational) → whole (pos 0) <ℚ t → 0 < nat_abs t.num
size_positive t h = size_above t.num (num_from_lt (Over-zero t.den (den_positive t)) (Over-self t) h)

positive_natural : (a : ℤ) → pos 0 <ℤ a → a ≡ pos (nat_abs a)
positive_natural a h = omega (arith, ints)

over_positive : (t : Rational) → whole (pos 0) <ℚ t → Over (pos (nat_abs t.num)) t.den t
over_positive t h =
    subst (λ a. Over a t.den t) (positive_natural t.num (num_from_lt (Over-zero t.den (den_positive t)) (Over-self t) h)) (Over-self t)

-- the quotient of the products is the floor
naturals : (n s e d m : ℕ) → int_div_euclid ((pos n *ℤ pos s) *ℤ pos e) (pos ((d * 1) * m)) ≡ pos (n * s * e / (d * m))
naturals n s e d m = ap (λ k. pos (n * s * e / (k * m))) (mul-one d)

pub quotient_is : (t cps : Rational) (n s e d m : ℕ) → whole (pos 0) ≤ℚ t → whole (pos 0) <ℚ cps → n ≡ nat_abs t.num → e ≡ cps.den → d ≡ t.den
    → m ≡ nat_abs cps.num
    → pos (n * s * e / (d * m)) ≡ floor (t *ℚ whole (pos s) /ℚ cps)
quotient_is t cps n s e d m h k en ee ed em =
    let whole_quotient = Over-floor (Over-divide (Over-times (over_size t h) (Over-whole (pos s))) (over_positive cps k) (size_positive cps k)) in
    rw (en, ee, ed, em) (sym (whole_quotient ∙ naturals (nat_abs t.num) s cps.den t.den (nat_abs cps.num)))

-- the greatest product of a numerator, a scale and a denominator
pub product_near : (n s e : ℕ) → n ≤ 2 ^ 80 → s ≤ 2 ^ 32 → e ≤ 65535 → n * s * e ≤ 2 ^ 112 * 65535
product_near n s e h k l = mul-le-mul (mul-le-mul h k) l

pub numerator_near : (x : Rational) → InRange x → nat_abs x.num ≤ 2 ^ 80
numerator_near x h = omega arith

pub quotient_near : (a b : ℕ) → a ≤ 2 ^ 112 * 65535 → a / b ≤ 2 ^ 112 * 65535
quotient_near a b h = omega (arith, div-le_self a b)
