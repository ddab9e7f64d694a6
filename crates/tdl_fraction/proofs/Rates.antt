-- Rates above 0, as p / s in lowest terms: what they do to multiples of 1 / g, and how far they move whole numbers.
use Rattle.std.proofs.Common.{◌≡◌, ℕ, zero, suc, ◌*◌, ◌/◌, ◌<◌, ◌≤◌, ℤ, pos, ◌*ℤ◌, ◌≤ℤ◌, nat_abs, arith, refl, sym, ap, ◌∙◌, subst}
use Rattle.std.specs.Int.{div_ceil}
use Rattle.std.proofs.lemmas.Int.{ints}
use Rattle.std.proofs.lemmas.Grind.{div_ceil_times}
use native.Mathlib.Nat.{div-mul_cancel}
use lib.IntN.{*ℤ_comm}
use Rattle.tdl_fraction.specs.Divisor.{gcd}
use Rattle.tdl_fraction.specs.LowestTerms.{IsGcd-gcd, positive_quotient}
use Rattle.tdl_fraction.specs.Rational.{Rational, whole, ◌*ℚ◌, ◌/ℚ◌, ◌≤ℚ◌, ◌<ℚ◌, IsMultiple}
use Rattle.tdl_fraction.proofs.Integers.{times_assoc}
use Rattle.tdl_fraction.proofs.Over.{Over, Over-self, Over-as, Over-whole, Over-times, Over-divide, num_from_same, den_positive, le_from_cross}
use Rattle.tdl_fraction.proofs.Order.{positive_over}
use Rattle.tdl_fraction.proofs.Multiples.{multiple_from_over, over_from_multiple, multiple_zero}

-- ---- the parts of a rate
-- p is the numerator's size
pub rate_over : (r : Rational) → whole (pos 0) <ℚ r → Over (pos (nat_abs r.num)) r.den r
rate_over r h =
    let o = positive_over r h in
    let e : r.num ≡ pos o.0 = num_from_same (Over-self r) o.2 refl in
    subst (λ (k : ℕ). Over (pos k) r.den r) (sym (ap nat_abs e)) o.2

-- and above 0
pub rate_positive : (r : Rational) → whole (pos 0) <ℚ r → 0 < nat_abs r.num
rate_positive r h =
    let o = positive_over r h in
    let e : r.num ≡ pos o.0 = num_from_same (Over-self r) o.2 refl in
    subst (λ (k : ℕ). 0 < k) (sym (ap nat_abs e)) o.1

-- ---- multiples
-- what the numerator shares with the denominator can be taken out
pub multiple_shared : (a : ℤ) (e d : ℕ) (q : Rational) → Over (a *ℤ pos d) e q → IsMultiple (e / gcd e d) q
multiple_shared a e d q o =
    let g = IsGcd-gcd e d in
    let less : (a *ℤ pos (d / gcd e d)) *ℤ pos e ≡ (a *ℤ pos d) *ℤ pos (e / gcd e d) =
    struck a (pos (d / gcd e d)) (pos (e / gcd e d)) (pos (gcd e d)) (pos e) (pos d) (ap pos (sym (div-mul_cancel (gcd e d) g.0)))
    (ap pos (sym (div-mul_cancel (gcd e d) g.1))) in
    multiple_from_over (Over-as o (positive_quotient e (gcd e d) o.positive g.0) less)
  where
    struck : (a d e g m n : ℤ) → m ≡ e *ℤ g → n ≡ d *ℤ g → (a *ℤ d) *ℤ m ≡ (a *ℤ n) *ℤ e
    struck a d e g m n h k =
        ap (λ x. (a *ℤ d) *ℤ x) (h ∙ *ℤ_comm e g) ∙ sym (times_assoc (a *ℤ d) g e) ∙ ap (λ x. x *ℤ e) (times_assoc a d g ∙ ap (λ x. a *ℤ x) (sym k))

none_shared : (s p : ℕ) → 0 * s / gcd (0 * s) p ≡ 0
none_shared s p = omega arith

-- at a rate
pub multiple_at_rate : (g : ℕ) (x r : Rational) → whole (pos 0) <ℚ r → IsMultiple g x → IsMultiple (g * r.den / gcd (g * r.den) (nat_abs r.num)) (x *ℚ r)
multiple_at_rate zero x r h m = subst (λ k. IsMultiple k (x *ℚ r)) (sym (none_shared r.den (nat_abs r.num))) (multiple_zero (x *ℚ r))
multiple_at_rate (suc g) x r h m =
    let o = over_from_multiple (suc g) x (omega arith) m in
    multiple_shared o.0 (suc g * r.den) (nat_abs r.num) (x *ℚ r) (Over-times o.1 (rate_over r h))

-- and back
pub multiple_by_rate : (g : ℕ) (x r : Rational) → whole (pos 0) <ℚ r → IsMultiple g x → IsMultiple (g * nat_abs r.num / gcd (g * nat_abs r.num) r.den) (x /ℚ r)
multiple_by_rate zero x r h m = subst (λ k. IsMultiple k (x /ℚ r)) (sym (none_shared (nat_abs r.num) r.den)) (multiple_zero (x /ℚ r))
multiple_by_rate (suc g) x r h m =
    let o = over_from_multiple (suc g) x (omega arith) m in
    multiple_shared o.0 (suc g * nat_abs r.num) r.den (x /ℚ r) (Over-divide o.1 (rate_over r h) (rate_positive r h))

-- ---- whole numbers, rounded up
up : (n d : ℕ) → n ≤ div_ceil n d * d → (pos n *ℤ pos 1) ≤ℤ (pos (div_ceil n d) *ℤ pos (1 * d))
up n d h = omega (arith, ints)

pub rounded_by_rate : (r : Rational) (k : ℕ) → whole (pos 0) <ℚ r → whole (pos k) /ℚ r ≤ℚ whole (pos (div_ceil (k * r.den) (nat_abs r.num)))
rounded_by_rate r k h =
    le_from_cross (Over-divide (Over-whole (pos k)) (rate_over r h) (rate_positive r h)) (Over-whole _)
    (up (k * r.den) (nat_abs r.num) (div_ceil_times (k * r.den) (nat_abs r.num) (rate_positive r h)).0)

pub rounded_at_rate : (r : Rational) (m : ℕ) → whole (pos 0) <ℚ r → whole (pos m) *ℚ r ≤ℚ whole (pos (div_ceil (m * nat_abs r.num) r.den))
rounded_at_rate r m h =
    le_from_cross (Over-times (Over-whole (pos m)) (rate_over r h)) (Over-whole _)
    (up (m * nat_abs r.num) r.den (div_ceil_times (m * nat_abs r.num) r.den (den_positive r)).0)
