-- Times as counts of a unit, 1 / u of a cycle: what moves a time adds to its count, or leaves its count as it is in another
-- unit. Each time is `n over d`, and one equation of whole numbers is left.
use Rattle.std.proofs.Common.{◌≡◌, ℕ, ◌*◌, ◌^◌, ◌<◌, ◌≤◌, ◌↔◌, ℤ, pos, ◌+ℤ◌, ◌-ℤ◌, ◌*ℤ◌, nat_abs, ◌≤ℤ◌, [], ◌∷◌, refl, sym, ap, ◌∙◌, subst, arith}
use Rattle.std.proofs.Math.Nat.{mul_assoc, mul-pos, mul-le-mul_right}
use Rattle.std.proofs.lemmas.Int.{unsigned_abs-mul}
use native.Mathlib.Nat.{mul_comm}
use Rattle.tdl_ring.proofs.Integers.{integers}
use Rattle.tdl_ring.proofs.Quoting.{by_ring, ring}
use Rattle.tdl_ring.proofs.Combination.{by_combination}
use Rattle.tdl_fraction.specs.Divisor.{gcd}
use Rattle.tdl_fraction.specs.Rational.{Rational, frac, whole, ◌+ℚ◌, ◌-ℚ◌, ◌*ℚ◌, ◌/ℚ◌, ◌≤ℚ◌, ceil, IsMultiple}
use Rattle.tdl_fraction.specs.Range.{InRange}
use Rattle.tdl_fraction.proofs.Integers.{times_assoc, times_one, times_cancel}
use Rattle.tdl_fraction.proofs.Over.{Over, Over-frac, Over-self, Over-whole, Over-as, Over-plus, Over-times, Over-divide}
use Rattle.tdl_fraction.proofs.Over.{Over-plus_same, Over-minus_same, Over-scaled, frac_over, same_over, same_cross_over, cross_over, frac_num, frac_den}
use Rattle.tdl_fraction.proofs.Order.{times_pos_le, whole_positive}
use Rattle.tdl_fraction.proofs.Rounding.{ceil_le}
use Rattle.tdl_fraction.proofs.Multiples.{over_from_multiple}

-- ---- moved times
-- a later and an earlier time
pub time-plus : (n m : ℤ) (u : ℕ) → 0 < u → frac (n +ℤ m) u ≡ frac n u +ℚ frac m u
time-plus n m u h = same_over (Over-frac (n +ℤ m) u h) (Over-plus_same (Over-frac n u h) (Over-frac m u h))

pub time-minus : (n m : ℤ) (u : ℕ) → 0 < u → frac (n -ℤ m) u ≡ frac n u -ℚ frac m u
time-minus n m u h = same_over (Over-frac (n -ℤ m) u h) (Over-minus_same (Over-frac n u h) (Over-frac m u h))

-- a time whose denominator goes x times into the unit is x times its numerator
pub Over-count : (t : Rational) (x u : ℕ) → 0 < u → x * t.den ≡ u → Over (t.num *ℤ pos x) u t
Over-count t x u h e = Over-as (Over-self t) h (scaled t.num (pos x) (pos t.den) (pos u) (ap pos e))
  where
    scaled : (n x d u : ℤ) → x *ℤ d ≡ u → (n *ℤ x) *ℤ d ≡ n *ℤ u
    scaled n x d u e = times_assoc n x d ∙ ap (λ k. n *ℤ k) e

pub time-count : (t : Rational) (x u : ℕ) → 0 < u → x * t.den ≡ u → frac (t.num *ℤ pos x) u ≡ t
time-count t x u h e = sym (frac_over (Over-count t x u h e))

-- the whole time c is c times the unit
pub Over-cycle : (c : ℤ) (u : ℕ) → 0 < u → Over (c *ℤ pos u) u (whole c)
Over-cycle c u h = Over-as (Over-whole c) h (times_one (c *ℤ pos u))

pub time-cycle : (c : ℤ) (u : ℕ) → 0 < u → frac (c *ℤ pos u) u ≡ whole c
time-cycle c u h = sym (frac_over (Over-cycle c u h))

pub time-later_cycles : (n k : ℤ) (u : ℕ) → 0 < u → frac (n +ℤ k *ℤ pos u) u ≡ frac n u +ℚ whole k
time-later_cycles n k u h = time-plus n (k *ℤ pos u) u h ∙ ap (λ t. frac n u +ℚ t) (time-cycle k u h)

pub time-earlier_cycles : (n k : ℤ) (u : ℕ) → 0 < u → frac (n -ℤ k *ℤ pos u) u ≡ frac n u -ℚ whole k
time-earlier_cycles n k u h = time-minus n (k *ℤ pos u) u h ∙ ap (λ t. frac n u -ℚ t) (time-cycle k u h)

pub time-turned : (n k : ℤ) (u : ℕ) → 0 < u → frac (k *ℤ pos u -ℤ n) u ≡ whole k -ℚ frac n u
time-turned n k u h = time-minus (k *ℤ pos u) n u h ∙ ap (λ t. t -ℚ frac n u) (time-cycle k u h)

-- ---- other units
-- at a rate p / s the unit is s / p times as fine, and the count stays
pub time-slower : (n : ℤ) (u v p s : ℕ) (r : Rational) → 0 < u → 0 < v → 0 < p → Over (pos p) s r → v * p ≡ u * s → frac n v /ℚ r ≡ frac n u
time-slower n u v p s r hu hv hp o e =
    same_cross_over (Over-divide (Over-frac n v hv) o hp) (Over-frac n u hu) (times_assoc n (pos s) (pos u) ∙ ap (λ (k : ℕ). n *ℤ pos k) (mul_comm s u ∙ sym e))

pub time-faster : (n : ℤ) (u v p s : ℕ) (r : Rational) → 0 < u → 0 < v → Over (pos p) s r → v * p ≡ u * s → frac n u *ℚ r ≡ frac n v
time-faster n u v p s r hu hv o e =
    same_cross_over (Over-times (Over-frac n u hu) o) (Over-frac n v hv) (times_assoc n (pos p) (pos v) ∙ ap (λ (k : ℕ). n *ℤ pos k) (mul_comm p v ∙ e))

-- in a unit x times as fine there are x times as many counts
pub time-finer : (n : ℤ) (u x : ℕ) → 0 < u → 0 < x → frac (n *ℤ pos x) (u * x) ≡ frac n u
time-finer n u x hu hx = sym (frac_over (Over-scaled x (Over-frac n u hu) hx))

-- j of n equal pieces of the way from s to t, each of w counts
pub time-along : (s t w : ℤ) (j n u : ℕ) → 0 < u → 0 < n → t -ℤ s ≡ w *ℤ pos n
    → frac s u +ℚ (frac t u -ℚ frac s u) *ℚ frac (pos j) n ≡ frac (s +ℤ w *ℤ pos j) u
time-along s t w j n u hu hn e =
    let way = Over-times (Over-minus_same (Over-frac t u hu) (Over-frac s u hu)) (Over-frac (pos j) n hn) in
    same_cross_over (Over-plus (Over-frac s u hu) way) (Over-frac (s +ℤ w *ℤ pos j) u hu) (joined s t w (pos j) (pos n) (pos u) e)
  where
    joined : (s t w j n u : ℤ) → t -ℤ s ≡ w *ℤ n → (s *ℤ (u *ℤ n) +ℤ ((t -ℤ s) *ℤ j) *ℤ u) *ℤ u ≡ (s +ℤ w *ℤ j) *ℤ (u *ℤ (u *ℤ n))
    joined s t w j n u e = by_combination integers (s ∷ t ∷ w ∷ j ∷ n ∷ u ∷ []) (j *ℤ u *ℤ u) e (search ring depth 16) refl

-- ---- tests
-- the counts of the times that are not before a time
pub not_before : (from : Rational) (n : ℤ) (u : ℕ) → 0 < u → (from ≤ℚ frac n u) ↔ (ceil (from *ℚ whole (pos u)) ≤ℤ n)
not_before from n u h =
    let scale : frac n u *ℚ whole (pos u) ≡ whole n =
    same_cross_over (Over-times (Over-frac n u h) (Over-whole (pos u))) (Over-whole n) (times_one (n *ℤ pos u) ∙ ap (λ (k : ℕ). n *ℤ pos k) (one_right u)) in
    let by = times_pos_le from (frac n u) (whole (pos u)) (whole_positive u h) in
    let up = ceil_le (from *ℚ whole (pos u)) n in (
      λ k. up.0 (subst (λ t. from *ℚ whole (pos u) ≤ℚ t) scale (by.0 k)),
      λ k. by.1 (subst (λ t. from *ℚ whole (pos u) ≤ℚ t) (sym scale) (up.1 k)),
    )
  where
    one_right : (u : ℕ) → u ≡ u * 1
    one_right u = omega arith

-- ---- exact counts, and their sizes
-- what is a multiple of 1 / g is a whole number of steps of x counts, where the unit is g times x
pub exact_count : (g x : ℕ) (n : ℤ) → 0 < g → 0 < x → IsMultiple g (frac n (g * x)) → (m : ℤ) × (n ≡ m *ℤ pos x) × (frac n (g * x) ≡ frac m g)
exact_count g x n hg hx on =
    let o = over_from_multiple g (frac n (g * x)) hg on in
    let cross : o.0 *ℤ pos (g * x) ≡ n *ℤ pos g = cross_over (Over-frac n (g * x) (mul-pos hg hx)) o.1 in
    (o.0, times_cancel n (o.0 *ℤ pos x) g hg (sym cross ∙ regroup o.0 (pos g) (pos x)), frac_over o.1)
  where
    regroup : (m g x : ℤ) → m *ℤ (g *ℤ x) ≡ (m *ℤ x) *ℤ g
    regroup m g x = by_ring integers (m ∷ g ∷ x ∷ []) (search ring depth 12) refl

-- a count of a time in range
pub count_size : (n : ℤ) (u : ℕ) → 0 < u → InRange (frac n u) → nat_abs n ≤ 2 ^ 36 * u
count_size n u h is =
    let g = gcd (nat_abs n) u in
    let num : nat_abs (frac n u).num * g ≡ nat_abs n = sym (unsigned_abs-mul (frac n u).num (pos g)) ∙ ap nat_abs (frac_num n u h) in
    let den : (frac n u).den * g ≡ u = frac_den n u h in
    sized (nat_abs n) (nat_abs (frac n u).num) (frac n u).den g u (2 ^ 36) num den is.near
  where
    sized : (n a d g u most : ℕ) → a * g ≡ n → d * g ≡ u → a ≤ most * d → n ≤ most * u
    sized n a d g u most e f k = rw (← e, ← f, ← mul_assoc most d g) (mul-le-mul_right g k)
