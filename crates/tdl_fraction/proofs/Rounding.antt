-- Rounding to whole numbers: floor and ceil by their inequalities, which determine them.
use Rattle.std.proofs.Common.{◌≡◌, ℕ, ◌<◌, ℤ, pos, ◌+ℤ◌, ◌-ℤ◌, ◌*ℤ◌, neg_ℤ, ◌≤ℤ◌, ◌<ℤ◌, ◌↔◌, ◌⊎◌, inl, inr, ⊎_elim, arith, refl, sym, ap, ◌∙◌, subst, subst₂}
use Rattle.std.specs.Int.{int_div_euclid}
use Rattle.std.proofs.lemmas.Int.{ints}
use Rattle.tdl_fraction.specs.Rational.{Rational, frac, whole, ◌+ℚ◌, ◌-ℚ◌, neg_ℚ, ◌≤ℚ◌, ◌<ℚ◌, floor, ceil}
use Rattle.tdl_fraction.proofs.Integers.{times_one}
use Rattle.tdl_fraction.proofs.Over.{den_positive, Over-self, Over-frac, Over-whole, le_from_cross, lt_from_cross, quotient_below, quotient_above, Over-floor}
use Rattle.tdl_fraction.proofs.Field.{whole-plus, whole-minus, +ℚ_comm, whole-neg, neg_ℚ-neg_ℚ, -ℚ_is}
use lib.IntN.{neg_ℤ-neg_ℤ}
use Rattle.tdl_fraction.proofs.Order.{≤ℚ_trans, <ℚ-≤ℚ_trans, ≤ℚ-<ℚ_trans, ≤ℚ_refl, ≤ℚ_from_<ℚ, <ℚ_or_≡, whole-le, whole-lt, plus_right_le, plus_right_lt}
use Rattle.tdl_fraction.proofs.Order.{le_by_difference, minus_le, minus_lt, neg_le, neg_lt}

-- ---- whole numbers
below_suc : (a b : ℤ) → a <ℤ (b +ℤ pos 1) → a ≤ℤ b
below_suc a b h = omega (arith, ints)

suc_above : (a : ℤ) → a <ℤ (a +ℤ pos 1)
suc_above a = omega (arith, ints)

suc_at_most : (a b : ℤ) → a <ℤ b → (a +ℤ pos 1) ≤ℤ b
suc_at_most a b h = omega (arith, ints)

antisymmetric : (a b : ℤ) → a ≤ℤ b → b ≤ℤ a → a ≡ b
antisymmetric a b h k = omega (arith, ints)

-- ---- floor
-- the floor is at most the number, and one more is above it
pub floor_at_most : (q : Rational) → whole (floor q) ≤ℚ q
unfolding floor
floor_at_most q =
    le_from_cross (Over-whole (floor q)) (Over-self q)
    (subst (λ x. (floor q *ℤ pos q.den) ≤ℤ x) (sym (times_one q.num)) (quotient_below q.num q.den (den_positive q)))

pub floor_above : (q : Rational) → q <ℚ whole (floor q +ℤ pos 1)
unfolding floor
floor_above q =
    lt_from_cross (Over-self q) (Over-whole (floor q +ℤ pos 1))
    (subst (λ x. x <ℤ ((floor q +ℤ pos 1) *ℤ pos q.den)) (sym (times_one q.num)) (quotient_above q.num q.den (den_positive q)))

-- a whole number is at most q exactly where it is at most the floor, and above q exactly where it is above the floor
pub le_floor : (c : ℤ) (q : Rational) → (whole c ≤ℚ q) ↔ (c ≤ℤ floor q)
le_floor c q = (
  λ h. below_suc c (floor q) ((whole-lt c (floor q +ℤ pos 1)).1 (≤ℚ-<ℚ_trans h (floor_above q))),
  λ h. ≤ℚ_trans ((whole-le c (floor q)).0 h) (floor_at_most q),
)

pub floor_lt : (q : Rational) (c : ℤ) → (q <ℚ whole c) ↔ (floor q <ℤ c)
floor_lt q c = (
  λ h. (whole-lt (floor q) c).1 (≤ℚ-<ℚ_trans (floor_at_most q) h),
  λ h. <ℚ-≤ℚ_trans (floor_above q) ((whole-le (floor q +ℤ pos 1) c).0 (suc_at_most (floor q) c h)),
)

-- no other whole number is so
pub floor_unique : (q : Rational) (n : ℤ) → whole n ≤ℚ q → q <ℚ whole (n +ℤ pos 1) → floor q ≡ n
floor_unique q n h k = antisymmetric (floor q) n (below_suc (floor q) n ((floor_lt q (n +ℤ pos 1)).0 k)) ((le_floor n q).0 h)

pub floor-whole : (n : ℤ) → floor (whole n) ≡ n
floor-whole n = floor_unique (whole n) n (≤ℚ_refl (whole n)) ((whole-lt n (n +ℤ pos 1)).0 (suc_above n))

pub floor_monotone : {p q : Rational} → p ≤ℚ q → floor p ≤ℤ floor q
floor_monotone {p} {q} h = (le_floor (floor p) q).0 (≤ℚ_trans (floor_at_most p) h)

between_suc : (a n : ℤ) → (a +ℤ pos 1) +ℤ n ≡ (a +ℤ n) +ℤ pos 1
between_suc a n = omega (arith, ints)

-- a whole number added or taken off goes through
pub floor-plus : (q : Rational) (n : ℤ) → floor (q +ℚ whole n) ≡ floor q +ℤ n
floor-plus q n =
    floor_unique (q +ℚ whole n) (floor q +ℤ n)
    (subst (λ x. x ≤ℚ q +ℚ whole n) (sym (whole-plus (floor q) n)) (plus_right_le (whole n) (floor_at_most q)))
    (subst (λ x. q +ℚ whole n <ℚ x) (sym (whole-plus (floor q +ℤ pos 1) n) ∙ ap whole (between_suc (floor q) n)) (plus_right_lt (whole n) (floor_above q)))

pub floor-minus : (q : Rational) (n : ℤ) → floor (q -ℚ whole n) ≡ floor q -ℤ n
floor-minus q n = ap floor (-ℚ_is q (whole n) ∙ ap (λ x. q +ℚ x) (sym (whole-neg n))) ∙ floor-plus q (neg_ℤ n)

pub floor-frac : (n : ℤ) (d : ℕ) → 0 < d → floor (frac n d) ≡ int_div_euclid n (pos d)
floor-frac n d h = Over-floor (Over-frac n d h)

-- what is above the floor is at least zero and below one
pub part_at_least : (q : Rational) → whole (pos 0) ≤ℚ q -ℚ whole (floor q)
part_at_least q = (le_by_difference (whole (floor q)) q).0 (floor_at_most q)

pub part_below : (q : Rational) → q -ℚ whole (floor q) <ℚ whole (pos 1)
part_below q = (minus_lt q (whole (pos 1)) (whole (floor q))).1
    (subst (λ x. q <ℚ x) (whole-plus (floor q) (pos 1) ∙ +ℚ_comm (whole (floor q)) (whole (pos 1))) (floor_above q))

-- a number is its floor or above it
pub whole_or_above : (q : Rational) → (q ≡ whole (floor q)) ⊎ (whole (floor q) <ℚ q)
whole_or_above q = ⊎_elim (λ h. inr h) (λ e. inl (sym e)) (<ℚ_or_≡ (floor_at_most q))

-- ---- ceil
pub ceil_is : (q : Rational) → ceil q ≡ neg_ℤ (floor (neg_ℚ q))
unfolding ceil
ceil_is q = refl

-- the ceiling is at least the number, and one less is below it
pub ceil_at_least : (q : Rational) → q ≤ℚ whole (ceil q)
unfolding ceil
ceil_at_least q =
    subst₂ ◌≤ℚ◌ (neg_ℚ-neg_ℚ q) (sym (whole-neg (floor (neg_ℚ q)))) ((neg_le (whole (floor (neg_ℚ q))) (neg_ℚ q)).0 (floor_at_most (neg_ℚ q)))

opposite_suc : (a : ℤ) → neg_ℤ (a +ℤ pos 1) ≡ neg_ℤ a -ℤ pos 1
opposite_suc a = omega (arith, ints)

pub ceil_beneath : (q : Rational) → whole (ceil q -ℤ pos 1) <ℚ q
unfolding ceil
ceil_beneath q =
    let f = floor (neg_ℚ q) in
    subst₂ ◌<ℚ◌ (sym (whole-neg (f +ℤ pos 1)) ∙ ap whole (opposite_suc f)) (neg_ℚ-neg_ℚ q) ((neg_lt (neg_ℚ q) (whole (f +ℤ pos 1))).0 (floor_above (neg_ℚ q)))

pred_below : (a b : ℤ) → (a -ℤ pos 1) <ℤ b → a ≤ℤ b
pred_below a b h = omega (arith, ints)

at_most_pred : (a b : ℤ) → a <ℤ b → a ≤ℤ (b -ℤ pos 1)
at_most_pred a b h = omega (arith, ints)

suc_pred : (a : ℤ) → (a -ℤ pos 1) <ℤ a
suc_pred a = omega (arith, ints)

-- a whole number is at least q exactly where it is at least the ceiling, and below q exactly where it is below the ceiling
pub ceil_le : (q : Rational) (c : ℤ) → (q ≤ℚ whole c) ↔ (ceil q ≤ℤ c)
ceil_le q c = (
  λ h. pred_below (ceil q) c ((whole-lt (ceil q -ℤ pos 1) c).1 (<ℚ-≤ℚ_trans (ceil_beneath q) h)),
  λ h. ≤ℚ_trans (ceil_at_least q) ((whole-le (ceil q) c).0 h),
)

pub lt_ceil : (c : ℤ) (q : Rational) → (whole c <ℚ q) ↔ (c <ℤ ceil q)
lt_ceil c q = (
  λ h. (whole-lt c (ceil q)).1 (<ℚ-≤ℚ_trans h (ceil_at_least q)),
  λ h. ≤ℚ-<ℚ_trans ((whole-le c (ceil q -ℤ pos 1)).0 (at_most_pred c (ceil q) h)) (ceil_beneath q),
)

-- no other whole number is so
pub ceil_unique : (q : Rational) (n : ℤ) → q ≤ℚ whole n → whole (n -ℤ pos 1) <ℚ q → ceil q ≡ n
ceil_unique q n h k = antisymmetric (ceil q) n ((ceil_le q n).0 h) (least n (ceil q) ((lt_ceil (n -ℤ pos 1) q).0 k))
  where
    least : (a b : ℤ) → (a -ℤ pos 1) <ℤ b → a ≤ℤ b
    least a b h = omega (arith, ints)

pub ceil-whole : (n : ℤ) → ceil (whole n) ≡ n
ceil-whole n = ceil_unique (whole n) n (≤ℚ_refl (whole n)) ((whole-lt (n -ℤ pos 1) n).0 (suc_pred n))

pub ceil_monotone : {p q : Rational} → p ≤ℚ q → ceil p ≤ℤ ceil q
ceil_monotone {p} {q} h = (ceil_le p (ceil q)).0 (≤ℚ_trans h (ceil_at_least q))

between_pred : (a n : ℤ) → (a -ℤ pos 1) +ℤ n ≡ (a +ℤ n) -ℤ pos 1
between_pred a n = omega (arith, ints)

pub ceil-plus : (q : Rational) (n : ℤ) → ceil (q +ℚ whole n) ≡ ceil q +ℤ n
ceil-plus q n =
    ceil_unique (q +ℚ whole n) (ceil q +ℤ n)
    (subst (λ x. q +ℚ whole n ≤ℚ x) (sym (whole-plus (ceil q) n)) (plus_right_le (whole n) (ceil_at_least q)))
    (subst (λ x. x <ℚ q +ℚ whole n) (sym (whole-plus (ceil q -ℤ pos 1) n) ∙ ap whole (between_pred (ceil q) n)) (plus_right_lt (whole n) (ceil_beneath q)))

pub ceil-minus : (q : Rational) (n : ℤ) → ceil (q -ℚ whole n) ≡ ceil q -ℤ n
ceil-minus q n = ap ceil (-ℚ_is q (whole n) ∙ ap (λ x. q +ℚ x) (sym (whole-neg n))) ∙ ceil-plus q (neg_ℤ n)

-- ---- both
pub floor_le_ceil : (q : Rational) → floor q ≤ℤ ceil q
floor_le_ceil q = (whole-le (floor q) (ceil q)).1 (≤ℚ_trans (floor_at_most q) (ceil_at_least q))

pub ceil_le_floor : (q : Rational) → ceil q ≤ℤ (floor q +ℤ pos 1)
ceil_le_floor q = (ceil_le q (floor q +ℤ pos 1)).0 (≤ℚ_from_<ℚ (floor_above q))

-- rounding moves a number by at most one
pub near_floor : (q : Rational) → q -ℚ whole (pos 1) ≤ℚ whole (floor q)
near_floor q = (minus_le q (whole (floor q)) (whole (pos 1))).1 (subst (λ x. q ≤ℚ x) (whole-plus (floor q) (pos 1)) (≤ℚ_from_<ℚ (floor_above q)))

pub near_ceil : (q : Rational) → whole (ceil q) ≤ℚ q +ℚ whole (pos 1)
near_ceil q = (minus_le (whole (ceil q)) q (whole (pos 1))).0 (subst (λ x. x ≤ℚ q) (whole-minus (ceil q) (pos 1)) (≤ℚ_from_<ℚ (ceil_beneath q)))

-- above its floor, a number has the next whole number as its ceiling
pub ceil_above_floor : (q : Rational) → whole (floor q) <ℚ q → ceil q ≡ floor q +ℤ pos 1
ceil_above_floor q h = antisymmetric (ceil q) (floor q +ℤ pos 1) (ceil_le_floor q) (suc_at_most (floor q) (ceil q) ((lt_ceil (floor q) q).0 h))

-- opposites
pub floor-neg : (q : Rational) → floor (neg_ℚ q) ≡ neg_ℤ (ceil q)
unfolding ceil
floor-neg q = sym (neg_ℤ-neg_ℤ (floor (neg_ℚ q)))

pub ceil-neg : (q : Rational) → ceil (neg_ℚ q) ≡ neg_ℤ (floor q)
unfolding ceil
ceil-neg q = ap (λ x. neg_ℤ (floor x)) (neg_ℚ-neg_ℚ q)
