-- Multiples of 1 / g: the numbers whose denominator divides g.
use Rattle.std.proofs.Common.{◌≡◌, ℕ, zero, suc, ◌*◌, ◌/◌, ◌<◌, ℤ, pos, ◌+ℤ◌, ◌*ℤ◌, nat_abs, ◌≤ℤ◌, ◌<ℤ◌, ◌↔◌, arith, sym, ap, ◌∙◌, subst}
use Rattle.std.specs.Int.{◌∣◌}
use Rattle.std.proofs.lemmas.Int.{ints, unsigned_abs-mul}
use native.Mathlib.Nat.{dvd-mul_left, dvd-zero, dvd_trans, one-dvd, mul-div_cancel', mul-dvd-mul, mul-one, mul-zero, dvd_refl}
use Rattle.tdl_fraction.specs.Rational.{Rational, frac, whole, ◌+ℚ◌, ◌-ℚ◌, ◌*ℚ◌, ◌/ℚ◌, neg_ℚ, ◌≤ℚ◌, ◌<ℚ◌, min_ℚ, max_ℚ, floor, ceil, IsMultiple}
use Rattle.tdl_fraction.proofs.Integers.{times_one, times_assoc}
use Rattle.tdl_fraction.specs.Divisor.{lcm}
use Rattle.tdl_fraction.specs.LowestTerms.{positive_quotient}
use Rattle.tdl_fraction.proofs.Coprime.{divides_other, divides_lcm_left, divides_lcm_right}
use Rattle.tdl_fraction.proofs.Over.{Over, num_den_coprime, Over-self, Over-frac, Over-as, cross_over, Over-scaled, Over-plus_same, Over-minus_same}
use Rattle.tdl_fraction.proofs.Over.{Over-times, Over-neg, Over-whole, Over-inverse, frac_over, same_over, num_from_lt, le_from_num}
use Rattle.tdl_fraction.proofs.Field.{/ℚ_is}
use Rattle.tdl_fraction.proofs.Rounding.{floor-whole, ceil-whole}
use Rattle.tdl_fraction.proofs.MinMax.{min_either, max_either}

-- what is n over g is a multiple of 1 / g
pub multiple_from_over : {n : ℤ} {g : ℕ} {q : Rational} → Over n g q → IsMultiple g q
multiple_from_over {n} {g} {q} o =
    let same : nat_abs q.num * g ≡ nat_abs n * q.den = sym (unsigned_abs-mul q.num (pos g)) ∙ ap nat_abs o.cross ∙ unsigned_abs-mul n (pos q.den) in
    record {
      divides = divides_other (nat_abs q.num) g q.den o.positive (num_den_coprime q)
          (subst (λ x. q.den ∣ x) (sym same) (dvd-mul_left q.den (nat_abs n)));
    }

-- and a multiple is some n over g
pub over_from_multiple : (g : ℕ) (q : Rational) → 0 < g → IsMultiple g q → (n : ℤ) × Over n g q
over_from_multiple g q h m =
    let k = g / q.den in
    let e : q.den * k ≡ g = mul-div_cancel' q.den m.divides in
    let p : 0 < k = positive_quotient g q.den h m.divides in
    (q.num *ℤ pos k, subst (λ d. Over (q.num *ℤ pos k) d q) e (Over-scaled k (Over-self q) p))

-- so the multiples are the fractions n / g
pub multiple_is_frac : (g : ℕ) (q : Rational) → 0 < g → IsMultiple g q ↔ ((n : ℤ) × (q ≡ frac n g))
multiple_is_frac g q h = (
  λ m. let o = over_from_multiple g q h m in (o.0, frac_over o.1),
  λ e. multiple_from_over (subst (λ x. Over e.0 g x) (sym e.1) (Over-frac e.0 g h)),
)

-- and those that g takes to a whole number
pub multiple_is_whole : (g : ℕ) (q : Rational) → 0 < g → IsMultiple g q ↔ ((n : ℤ) × (q *ℚ whole (pos g) ≡ whole n))
multiple_is_whole g q h = (
  λ m. let o = over_from_multiple g q h m in (o.0, same_over (Over-as (Over-times o.1 (Over-whole (pos g))) (omega arith) (up o.0 (pos g))) (Over-whole o.0)),
  λ e. multiple_from_over (down e.0 e.1),
)
  where
    up : (n g : ℤ) → n *ℤ (g *ℤ pos 1) ≡ (n *ℤ g) *ℤ pos 1
    up n g = sym (times_assoc n g (pos 1))

    down : (n : ℤ) → q *ℚ whole (pos g) ≡ whole n → Over n g q
    down n e = record {
      positive = h;
      cross = sym (times_one (q.num *ℤ pos g))
          ∙ sym (cross_over (Over-times (Over-self q) (Over-whole (pos g))) (subst (λ x. Over n 1 x) (sym e) (Over-whole n)))
          ∙ ap (λ (k : ℕ). n *ℤ pos k) (mul-one q.den);
    }

pub frac_multiple : (n : ℤ) (g : ℕ) → 0 < g → IsMultiple g (frac n g)
frac_multiple n g h = multiple_from_over (Over-frac n g h)

-- whole numbers are multiples of 1, and the multiples of 1 are whole
pub whole_multiple_one : (n : ℤ) → IsMultiple 1 (whole n)
whole_multiple_one n = multiple_from_over (Over-whole n)

pub whole_from_multiple : (q : Rational) → IsMultiple 1 q → (q ≡ whole (floor q)) × (q ≡ whole (ceil q))
whole_from_multiple q m =
    let o = over_from_multiple 1 q (omega arith) m in
    let e : q ≡ whole o.0 = same_over o.1 (Over-whole o.0) in
    (e ∙ ap whole (sym (ap floor e ∙ floor-whole o.0)), e ∙ ap whole (sym (ap ceil e ∙ ceil-whole o.0)))

-- a finer step has the multiples of a coarser one
pub multiple_finer : (g h : ℕ) (q : Rational) → g ∣ h → IsMultiple g q → IsMultiple h q
multiple_finer g h q d m = record { divides = dvd_trans q.den m.divides d }

pub whole_multiple : (g : ℕ) (n : ℤ) → IsMultiple g (whole n)
whole_multiple g n = multiple_finer 1 g (whole n) (one-dvd g) (whole_multiple_one n)

-- the step of a least common multiple has the multiples of both
pub multiple_lcm_left : {g : ℕ} {x : Rational} (h : ℕ) → IsMultiple g x → IsMultiple (lcm g h) x
multiple_lcm_left {g} {x} h m = multiple_finer g (lcm g h) x (divides_lcm_left g h) m

pub multiple_lcm_right : {h : ℕ} {x : Rational} (g : ℕ) → IsMultiple h x → IsMultiple (lcm g h) x
multiple_lcm_right {h} {x} g m = multiple_finer h (lcm g h) x (divides_lcm_right g h) m

-- anything is a multiple of one over its own denominator, and of one over 0
pub multiple_own : (q : Rational) → IsMultiple q.den q
multiple_own q = record { divides = dvd_refl q.den }

pub multiple_zero : (q : Rational) → IsMultiple 0 q
multiple_zero q = record { divides = dvd-zero q.den }

-- ---- closed under the operations
both_over : (g : ℕ) (x y z : Rational) → ((g : ℕ) → 0 < g → IsMultiple g x → IsMultiple g y → IsMultiple g z) → IsMultiple g x → IsMultiple g y → IsMultiple g z
both_over zero x y z f h k = multiple_zero z
both_over (suc g) x y z f h k = f (suc g) (omega arith) h k

pub multiple_plus : {g : ℕ} {x y : Rational} → IsMultiple g x → IsMultiple g y → IsMultiple g (x +ℚ y)
multiple_plus {g} {x} {y} =
    both_over g x y (x +ℚ y) (λ g p h k. multiple_from_over (Over-plus_same (over_from_multiple g x p h).1 (over_from_multiple g y p k).1))

pub multiple_minus : {g : ℕ} {x y : Rational} → IsMultiple g x → IsMultiple g y → IsMultiple g (x -ℚ y)
multiple_minus {g} {x} {y} =
    both_over g x y (x -ℚ y) (λ g p h k. multiple_from_over (Over-minus_same (over_from_multiple g x p h).1 (over_from_multiple g y p k).1))

pub multiple_neg : {g : ℕ} {x : Rational} → IsMultiple g x → IsMultiple g (neg_ℚ x)
multiple_neg {g} {x} h =
    both_over g x x (neg_ℚ x) (λ g p h k. multiple_from_over (Over-neg (over_from_multiple g x p h).1)) h h

pub multiple_min : {g : ℕ} {x y : Rational} → IsMultiple g x → IsMultiple g y → IsMultiple g (min_ℚ x y)
multiple_min {g} {x} {y} h k = min_either (λ z. IsMultiple g z) x y h k

pub multiple_max : {g : ℕ} {x y : Rational} → IsMultiple g x → IsMultiple g y → IsMultiple g (max_ℚ x y)
multiple_max {g} {x} {y} h k = max_either (λ z. IsMultiple g z) x y h k

-- of multiples of 1 / g and 1 / h
pub multiple_plus_lcm : {g h : ℕ} {x y : Rational} → IsMultiple g x → IsMultiple h y → IsMultiple (lcm g h) (x +ℚ y)
multiple_plus_lcm {g} {h} a b = multiple_plus (multiple_lcm_left h a) (multiple_lcm_right g b)

pub multiple_minus_lcm : {g h : ℕ} {x y : Rational} → IsMultiple g x → IsMultiple h y → IsMultiple (lcm g h) (x -ℚ y)
multiple_minus_lcm {g} {h} a b = multiple_minus (multiple_lcm_left h a) (multiple_lcm_right g b)

-- ---- products and quotients
pub multiple_times : {g h : ℕ} {x y : Rational} → IsMultiple g x → IsMultiple h y → IsMultiple (g * h) (x *ℚ y)
multiple_times {g} {h} {x} {y} a b =
    multiple_finer (x.den * y.den) (g * h) (x *ℚ y) (mul-dvd-mul x.den y.den a.divides b.divides) (multiple_from_over (Over-times (Over-self x) (Over-self y)))

-- times a whole number
pub multiple_times_whole : {g : ℕ} {x : Rational} (n : ℤ) → IsMultiple g x → IsMultiple g (x *ℚ whole n)
multiple_times_whole {g} {x} n h = subst (λ k. IsMultiple k (x *ℚ whole n)) (mul-one g) (multiple_times h (whole_multiple_one n))

-- divided by a whole number
pub multiple_divide : {g : ℕ} {x : Rational} (s : ℕ) → IsMultiple g x → IsMultiple (g * s) (x /ℚ whole (pos s))
multiple_divide {g} {x} zero h = subst (λ k. IsMultiple k (x /ℚ whole (pos 0))) (sym (mul-zero g)) (multiple_zero (x /ℚ whole (pos 0)))
multiple_divide {g} {x} (suc s) h =
    subst (λ z. IsMultiple (g * suc s) z) (sym (/ℚ_is x (whole (pos (suc s)))))
    (multiple_times h (multiple_from_over (Over-inverse (omega arith) (Over-whole (pos (suc s))))))

-- times n over s
pub multiple_times_frac : {g : ℕ} {x : Rational} (n : ℤ) (s : ℕ) → 0 < s → IsMultiple g x → IsMultiple (g * s) (x *ℚ frac n s)
multiple_times_frac n s p h = multiple_times h (frac_multiple n s p)

-- ---- steps between multiples
-- of two multiples of 1 / g the greater is at least 1 / g above the less
pub multiple_gap : (g : ℕ) (x y : Rational) → 0 < g → IsMultiple g x → IsMultiple g y → x <ℚ y → x +ℚ frac (pos 1) g ≤ℚ y
multiple_gap g x y p h k l =
    let a = over_from_multiple g x p h in
    let b = over_from_multiple g y p k in
    le_from_num (Over-plus_same a.1 (Over-frac (pos 1) g p)) b.1 (next a.0 b.0 (num_from_lt a.1 b.1 l))
  where
    next : (a b : ℤ) → a <ℤ b → (a +ℤ pos 1) ≤ℤ b
    next a b h = omega (arith, ints)
