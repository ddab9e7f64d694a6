-- When a number is in range, and what that says of its size.
use Rattle.std.specs.Prelude.{◌≡◌, ◌≢◌, Bool, true, false, ℕ, zero, suc, ◌+◌, ◌*◌, ◌^◌, ◌<◌, ◌≤◌, ℤ, pos, neg_ℤ, nat_abs, ◌+ℤ◌, ◌-ℤ◌, ◌*ℤ◌, ◌≤ℤ◌}
use Rattle.std.proofs.Common.{[], ◌∷◌, ◌⊎◌, ⊎_elim, refl, sym, ap, ◌∙◌, subst, arith}
use Rattle.std.proofs.lemmas.Int.{ints, unsigned_abs-mul}
use Rattle.std.proofs.Math.Nat.{mul_comm, mul-pos, le_of_mul-le-mul_right, mul-le-mul_right}
use Rattle.std.proofs.lemmas.Nat.Gcd.{le_of_dvd}
use Rattle.tdl_ring.proofs.Integers.{integers}
use Rattle.tdl_ring.proofs.Quoting.{by_ring, ring}
use Rattle.tdl_fraction.specs.Rational.{Rational, frac, whole, ◌+ℚ◌, ◌-ℚ◌, ◌*ℚ◌, ◌/ℚ◌, ◌≤ℚ◌, IsMultiple}
use Rattle.tdl_fraction.specs.Divisor.{lcm}
use Rattle.tdl_fraction.specs.Range.{InRange, IsWithin}
use Rattle.tdl_fraction.proofs.Euclid.{gcd_positive, gcd-one}
use Rattle.tdl_fraction.proofs.Parts.{whole-frac}
use Rattle.tdl_fraction.proofs.Results.{divide_below, divide_above, divisor_positive, below_zero, from_zero}
use lib.Signed.{lt_z}
use Rattle.tdl_fraction.proofs.Over.{frac_num_lowest, Over, Over-self, Over-frac, frac_over, frac_den, Over-whole, Over-plus, Over-minus, Over-times}
use Rattle.tdl_fraction.proofs.Over.{den_positive, Over-as, Over-divide, le_from_cross, cross_from_le}
use Rattle.tdl_fraction.proofs.Order.{≤ℚ_trans, whole-le}
use Rattle.tdl_fraction.proofs.Coprime.{lcm_positive}
use Rattle.tdl_fraction.proofs.Multiples.{multiple_lcm_left, multiple_lcm_right}

-- ---- from a numerator and a denominator
factor_le : (q g d : ℕ) → q * g ≡ d → 0 < g → q ≤ d
factor_le q zero d e p = absurd (omega arith)
factor_le q (suc g) d e p = omega arith

reduced_near : (a b p d : ℕ) → b * d ≡ a * p → 0 < d → a ≤ 2 ^ 36 * d → b ≤ 2 ^ 36 * p
reduced_near a b p d e h k =
    let scaled : b * d ≤ (2 ^ 36 * p) * d = omega (arith, mul-le-mul_right p k) in
    le_of_mul-le-mul_right scaled h

-- a numerator of at most 2^36 times the denominator
pub InRange-frac : (n : ℤ) (d : ℕ) → 0 < d → d ≤ 2 ^ 44 → nat_abs n ≤ 2 ^ 36 * d → InRange (frac n d)
InRange-frac n d p h k =
    let q = frac n d in
    let e : nat_abs q.num * d ≡ nat_abs n * q.den =
    sym (unsigned_abs-mul q.num (pos d)) ∙ ap nat_abs (Over-frac n d p).cross ∙ unsigned_abs-mul n (pos q.den) in
    let less : q.den ≤ d = factor_le q.den _ d (frac_den n d p) (gcd_positive (nat_abs n) d p) in
    record { fine = omega arith; near = reduced_near (nat_abs n) (nat_abs q.num) q.den d e p k }

-- the same of a number that is n over d
pub InRange-over : {n : ℤ} {d : ℕ} {x : Rational} → Over n d x → d ≤ 2 ^ 44 → nat_abs n ≤ 2 ^ 36 * d → InRange x
InRange-over {n} {d} o h k = subst InRange (sym (frac_over o)) (InRange-frac n d o.positive h k)

-- a whole number of at most 2^36
pub InRange-whole : (n : ℤ) → nat_abs n ≤ 2 ^ 36 → InRange (whole n)
InRange-whole n h = InRange-over (Over-whole n) (omega arith) (omega arith)

-- ---- from bounds on the number
pub InRange-between : (x : Rational) → x.den ≤ 2 ^ 44 → whole (neg_ℤ (pos (2 ^ 36))) ≤ℚ x → x ≤ℚ whole (pos (2 ^ 36)) → InRange x
InRange-between x h low high =
    let below = cross_from_le (Over-whole (neg_ℤ (pos (2 ^ 36)))) (Over-self x) low in
    let above = cross_from_le (Over-self x) (Over-whole (pos (2 ^ 36))) high in
    record { fine = h; near = sized x.num x.den below above }
  where
    sized : (n : ℤ) (d : ℕ) → (neg_ℤ (pos (2 ^ 36)) *ℤ pos d) ≤ℤ (n *ℤ pos 1) → (n *ℤ pos 1) ≤ℤ (pos (2 ^ 36) *ℤ pos d) → nat_abs n ≤ 2 ^ 36 * d
    sized n d h k = omega (arith, ints)

-- a number in range is at least -2^36
pub in_range_above : (x : Rational) → InRange x → whole (neg_ℤ (pos (2 ^ 36))) ≤ℚ x
in_range_above x h = le_from_cross (Over-whole (neg_ℤ (pos (2 ^ 36)))) (Over-self x) (low x.num x.den h.near)
  where
    low : (n : ℤ) (d : ℕ) → nat_abs n ≤ 2 ^ 36 * d → (neg_ℤ (pos (2 ^ 36)) *ℤ pos d) ≤ℤ (n *ℤ pos 1)
    low n d h = omega (arith, ints)

-- and at most 2^36
pub in_range_below : (x : Rational) → InRange x → x ≤ℚ whole (pos (2 ^ 36))
in_range_below x h = le_from_cross (Over-self x) (Over-whole (pos (2 ^ 36))) (high x.num x.den h.near)
  where
    high : (n : ℤ) (d : ℕ) → nat_abs n ≤ 2 ^ 36 * d → (n *ℤ pos 1) ≤ℤ (pos (2 ^ 36) *ℤ pos d)
    high n d h = omega (arith, ints)

-- a multiple of 1 / g of size at most m
pub in_range : (g m : ℕ) (t : Rational) → 0 < g → IsMultiple g t → g ≤ 2 ^ 44 → IsWithin m t → m ≤ 2 ^ 36 → InRange t
in_range g m t p on fine within near =
    let least : t.den ≤ g = le_of_dvd p on.divides in
    InRange-between t (omega arith)
    (≤ℚ_trans ((whole-le (neg_ℤ (pos (2 ^ 36))) (neg_ℤ (pos m))).0 (omega (arith, ints))) within.from)
    (≤ℚ_trans within.to ((whole-le (pos m) (pos (2 ^ 36))).0 (omega (arith, ints))))

-- a multiple of 1 / g or of 1 / q, of size at most m
pub fits : (g q m : ℕ) (t : Rational) → 0 < g → 0 < q → IsMultiple g t ⊎ IsMultiple q t → lcm g q ≤ 2 ^ 44 → IsWithin m t → m ≤ 2 ^ 36 → InRange t
fits g q m t p r on fine within near =
    in_range (lcm g q) m t (lcm_positive g q p r) (⊎_elim (λ h. multiple_lcm_left q h) (λ h. multiple_lcm_right g h) on) fine within near

-- ---- sizes of at most a whole number
pub within_more : {m n : ℕ} {t : Rational} → m ≤ n → IsWithin m t → IsWithin n t
within_more {m} {n} h w = record {
  from = ≤ℚ_trans ((whole-le (neg_ℤ (pos n)) (neg_ℤ (pos m))).0 (omega (arith, ints))) w.from;
  to = ≤ℚ_trans w.to ((whole-le (pos m) (pos n)).0 (omega (arith, ints)));
}

-- ---- results, from the sizes of both numbers
sum_size : (a b : ℤ) → nat_abs (a +ℤ b) ≤ nat_abs a + nat_abs b
sum_size a b = omega (arith, ints)

difference_size : (a b : ℤ) → nat_abs (a -ℤ b) ≤ nat_abs a + nat_abs b
difference_size a b = omega (arith, ints)

scaled_size : (n : ℤ) (d e : ℕ) → nat_abs n ≤ 2 ^ 35 * d → nat_abs (n *ℤ pos e) ≤ 2 ^ 35 * (d * e)
scaled_size n d e h = rw (unsigned_abs-mul n (pos e)) (omega (arith, mul-le-mul_right e h))

-- a sum of numbers of at most 2^35
pub InRange-plus : (x y : Rational) → x.den * y.den ≤ 2 ^ 44 → nat_abs x.num ≤ 2 ^ 35 * x.den → nat_abs y.num ≤ 2 ^ 35 * y.den → InRange (x +ℚ y)
InRange-plus x y f h k =
    InRange-over (Over-plus (Over-self x) (Over-self y)) f
    (omega (arith, sum_size (x.num *ℤ pos y.den) (y.num *ℤ pos x.den), scaled_size x.num x.den y.den h, scaled_size y.num y.den x.den k))

-- a difference of numbers of at most 2^35
pub InRange-minus : (x y : Rational) → x.den * y.den ≤ 2 ^ 44 → nat_abs x.num ≤ 2 ^ 35 * x.den → nat_abs y.num ≤ 2 ^ 35 * y.den → InRange (x -ℚ y)
InRange-minus x y f h k =
    InRange-over (Over-minus (Over-self x) (Over-self y)) f
    (omega (arith, difference_size (x.num *ℤ pos y.den) (y.num *ℤ pos x.den), scaled_size x.num x.den y.den h, scaled_size y.num y.den x.den k))

-- a product, by its parts
pub InRange-times : (x y : Rational) → x.den * y.den ≤ 2 ^ 44 → nat_abs x.num * nat_abs y.num ≤ 2 ^ 36 * (x.den * y.den) → InRange (x *ℚ y)
InRange-times x y f h =
    InRange-over (Over-times (Over-self x) (Over-self y)) f (rw (unsigned_abs-mul x.num y.num) h)

-- a quotient, by its parts
pub InRange-divide : (x y : Rational) → y ≢ whole (pos 0) → x.den * nat_abs y.num ≤ 2 ^ 44 → nat_abs x.num * y.den ≤ 2 ^ 36 * (x.den * nat_abs y.num)
    → InRange (x /ℚ y)
InRange-divide x y n f h =
    let b = y.num *ℤ pos x.den in
    let size : nat_abs b ≡ x.den * nat_abs y.num = unsigned_abs-mul y.num (pos x.den) ∙ mul_comm (nat_abs y.num) x.den in
    let positive : 0 < nat_abs b = divisor_positive x y b refl n in
    let fine : nat_abs b ≤ 2 ^ 44 = rw size f in
    let near : nat_abs (x.num *ℤ pos y.den) ≤ 2 ^ 36 * nat_abs b = rw (size, unsigned_abs-mul x.num (pos y.den)) h in
    let turned : nat_abs (neg_ℤ (x.num *ℤ pos y.den)) ≤ 2 ^ 36 * nat_abs b = omega (arith, ints) in
    let by_sign : (t : Bool) → lt_z b (pos 0) ≡ t → InRange (x /ℚ y) =
    λ t. elim t as (λ t. lt_z b (pos 0) ≡ t → InRange (x /ℚ y)) [
      | true ↦ λ e. subst InRange (divide_below x y b refl (below_zero b e)) (InRange-frac _ _ positive fine turned)
      | false ↦ λ e. subst InRange (divide_above x y b refl (from_zero b e) n) (InRange-frac _ _ positive fine near)
    ] in
    by_sign (lt_z b (pos 0)) refl

-- a sum with a whole number, and a difference from one
pub InRange-plus_whole : (x : Rational) (c : ℤ) → x.den ≤ 2 ^ 44 → nat_abs x.num + nat_abs c * x.den ≤ 2 ^ 36 * x.den → InRange (x +ℚ whole c)
InRange-plus_whole x c f h =
    InRange-over (Over-plus (Over-self x) (Over-whole c)) (omega arith)
    (omega (arith, h, sum_size (x.num *ℤ pos 1) (c *ℤ pos x.den), unsigned_abs-mul x.num (pos 1), unsigned_abs-mul c (pos x.den)))

pub InRange-whole_minus : (x : Rational) (c : ℤ) → x.den ≤ 2 ^ 44 → nat_abs x.num + nat_abs c * x.den ≤ 2 ^ 36 * x.den → InRange (whole c -ℚ x)
InRange-whole_minus x c f h =
    InRange-over (Over-minus (Over-whole c) (Over-self x)) (omega arith)
    (omega (arith, h, difference_size (c *ℤ pos x.den) (x.num *ℤ pos 1), unsigned_abs-mul x.num (pos 1), unsigned_abs-mul c (pos x.den)))

-- a product with a whole number and another more, over a third
pub InRange-times_plus_over : (x : Rational) (times : ℕ) (plus : ℤ) (over : ℕ) → 0 < over → x.den * over ≤ 2 ^ 44
    → nat_abs x.num * times + nat_abs plus * x.den ≤ 2 ^ 36 * (x.den * over) → InRange ((x *ℚ whole (pos times) +ℚ whole plus) /ℚ whole (pos over))
InRange-times_plus_over x times plus over p f h =
    let o = Over-divide (Over-plus (Over-times (Over-self x) (Over-whole (pos times))) (Over-whole plus)) (Over-whole (pos over)) p in
    InRange-over (Over-as o (mul-pos (den_positive x) p) (on_one x.num (pos times) plus (pos x.den) (pos over))) f
    (omega (arith, h, sum_size (x.num *ℤ pos times) (plus *ℤ pos x.den), unsigned_abs-mul x.num (pos times), unsigned_abs-mul plus (pos x.den)))
  where
    on_one : (n t p d o : ℤ) → (n *ℤ t +ℤ p *ℤ d) *ℤ (((d *ℤ pos 1) *ℤ pos 1) *ℤ o) ≡ (((n *ℤ t) *ℤ pos 1 +ℤ p *ℤ (d *ℤ pos 1)) *ℤ pos 1) *ℤ (d *ℤ o)
    on_one n t p d o = by_ring integers (n ∷ t ∷ p ∷ d ∷ o ∷ []) (search ring depth 12) refl

-- a numerator that is not 0 makes a number that is not 0
pub nonzero_from_num : (x : Rational) → x.num ≢ pos 0 → x ≢ whole (pos 0)
nonzero_from_num x h e = h (ap (λ y. y.num) (e ∙ whole-frac (pos 0)) ∙ frac_num_lowest (pos 0) 1 (omega arith) (gcd-one 0))
