-- The order of the rationals: total, kept by sums, and by products and quotients with a positive number.
use Rattle.std.proofs.Common.{◌≡◌, ◌≢◌, ℕ, ◌<◌, ℤ, pos, negsuc, ◌≤ℤ◌, ◌<ℤ◌, ◌↔◌, ◌⊎◌, inl, inr, ⊎_elim, Bool, true, false, arith, refl, sym, ap, ◌∙◌, subst}
use Rattle.std.proofs.Common.{subst₂, mul-pos}
use Rattle.std.proofs.lemmas.Int.{ints}
use Rattle.tdl_fraction.specs.Rational.{Rational, frac, whole, ◌+ℚ◌, ◌-ℚ◌, ◌*ℚ◌, ◌/ℚ◌, neg_ℚ, inverse, ◌≤ℚ◌, ◌<ℚ◌, le_ℚ}
use Rattle.tdl_fraction.proofs.Integers.{times_le, times_lt, times_le_cancel, times_lt_cancel}
use Rattle.tdl_fraction.proofs.Over.{Over, den_positive, Over-self, Over-frac, Over-times, Over-whole, Over-zero, Over-inverse, le_from_num, num_from_le}
use Rattle.tdl_fraction.proofs.Over.{lt_from_num, num_from_lt, num_from_same, le_ℚ-true, le_ℚ-false}
use Rattle.tdl_fraction.proofs.Field.{*ℚ_comm, *ℚ-zero, /ℚ-times}
use Rattle.tdl_fraction.proofs.CommonStep.{step, steps, step-same, zero_count, Over-step, by_steps1, by_steps2, by_steps3, by_steps4}

-- ---- a total order
pub ≤ℚ_refl : (x : Rational) → x ≤ℚ x
≤ℚ_refl x = by_steps1 (λ x. x ≤ℚ x) (λ k a. simp (steps) (omega (arith, ints))) x

pub ≤ℚ_trans : {x y z : Rational} → x ≤ℚ y → y ≤ℚ z → x ≤ℚ z
≤ℚ_trans {x} {y} {z} = by_steps3 (λ x y z. x ≤ℚ y → y ≤ℚ z → x ≤ℚ z) (λ k a b c. simp (steps) (omega (arith, ints))) x y z

pub <ℚ_trans : {x y z : Rational} → x <ℚ y → y <ℚ z → x <ℚ z
<ℚ_trans {x} {y} {z} = by_steps3 (λ x y z. x <ℚ y → y <ℚ z → x <ℚ z) (λ k a b c. simp (steps) (omega (arith, ints))) x y z

pub <ℚ-≤ℚ_trans : {x y z : Rational} → x <ℚ y → y ≤ℚ z → x <ℚ z
<ℚ-≤ℚ_trans {x} {y} {z} = by_steps3 (λ x y z. x <ℚ y → y ≤ℚ z → x <ℚ z) (λ k a b c. simp (steps) (omega (arith, ints))) x y z

pub ≤ℚ-<ℚ_trans : {x y z : Rational} → x ≤ℚ y → y <ℚ z → x <ℚ z
≤ℚ-<ℚ_trans {x} {y} {z} = by_steps3 (λ x y z. x ≤ℚ y → y <ℚ z → x <ℚ z) (λ k a b c. simp (steps) (omega (arith, ints))) x y z

pub ≤ℚ_antisymm : {x y : Rational} → x ≤ℚ y → y ≤ℚ x → x ≡ y
≤ℚ_antisymm {x} {y} = by_steps2 (λ x y. x ≤ℚ y → y ≤ℚ x → x ≡ y) (λ k a b. simp (steps, step-same) (omega (arith, ints))) x y

pub <ℚ_asymm : {x y : Rational} → x <ℚ y → ¬ (y <ℚ x)
<ℚ_asymm {x} {y} = by_steps2 (λ x y. x <ℚ y → ¬ (y <ℚ x)) (λ k a b. simp (steps) (omega (arith, ints))) x y

pub <ℚ_irrefl : (x : Rational) → ¬ (x <ℚ x)
<ℚ_irrefl x = by_steps1 (λ x. ¬ (x <ℚ x)) (λ k a. simp (steps) (omega (arith, ints))) x

-- below is at most, and apart
pub ≤ℚ_from_<ℚ : {x y : Rational} → x <ℚ y → x ≤ℚ y
≤ℚ_from_<ℚ {x} {y} = by_steps2 (λ x y. x <ℚ y → x ≤ℚ y) (λ k a b. simp (steps) (omega (arith, ints))) x y

pub ≢_from_<ℚ : {x y : Rational} → x <ℚ y → x ≢ y
≢_from_<ℚ {x} {y} = by_steps2 (λ x y. x <ℚ y → x ≢ y) (λ k a b. simp (steps, step-same) (omega (arith, ints))) x y

pub ≤ℚ_from_same : {x y : Rational} → x ≡ y → x ≤ℚ y
≤ℚ_from_same {x} {y} = by_steps2 (λ x y. x ≡ y → x ≤ℚ y) (λ k a b. simp (steps, step-same) (omega (arith, ints))) x y

-- at most and apart is below
pub <ℚ_from_≤ℚ : {x y : Rational} → x ≤ℚ y → x ≢ y → x <ℚ y
<ℚ_from_≤ℚ {x} {y} = by_steps2 (λ x y. x ≤ℚ y → x ≢ y → x <ℚ y) (λ k a b. simp (steps, step-same) (omega (arith, ints))) x y

-- each order is the denial of the reverse of the other
pub not_<ℚ : {x y : Rational} → x ≤ℚ y → ¬ (y <ℚ x)
not_<ℚ {x} {y} = by_steps2 (λ x y. x ≤ℚ y → ¬ (y <ℚ x)) (λ k a b. simp (steps) (omega (arith, ints))) x y

pub not_≤ℚ : {x y : Rational} → x <ℚ y → ¬ (y ≤ℚ x)
not_≤ℚ {x} {y} = by_steps2 (λ x y. x <ℚ y → ¬ (y ≤ℚ x)) (λ k a b. simp (steps) (omega (arith, ints))) x y

-- two facts that cannot both hold
pub clash_ℚ : {X : Type 0} {x y : Rational} → x <ℚ y → y ≤ℚ x → X
clash_ℚ h k = absurd (not_≤ℚ h k)

-- one or the other
pub ≤ℚ_or_<ℚ : (x y : Rational) → (x ≤ℚ y) ⊎ (y <ℚ x)
≤ℚ_or_<ℚ x y = by (le_ℚ x y) refl
  where
    by : (t : Bool) → le_ℚ x y ≡ t → (x ≤ℚ y) ⊎ (y <ℚ x)
    by true e = inl ((le_ℚ-true x y).0 e)
    by false e = inr ((le_ℚ-false x y).0 e)

pub ≤ℚ_from_not : {x y : Rational} → ¬ (y <ℚ x) → x ≤ℚ y
≤ℚ_from_not {x} {y} n = ⊎_elim (λ h. h) (λ h. absurd (n h)) (≤ℚ_or_<ℚ x y)

pub <ℚ_from_not : {x y : Rational} → ¬ (y ≤ℚ x) → x <ℚ y
<ℚ_from_not {x} {y} n = ⊎_elim (λ h. absurd (n h)) (λ h. h) (≤ℚ_or_<ℚ y x)

pub ≤ℚ_or_≤ℚ : (x y : Rational) → (x ≤ℚ y) ⊎ (y ≤ℚ x)
≤ℚ_or_≤ℚ x y = ⊎_elim (λ h. inl h) (λ h. inr (≤ℚ_from_<ℚ h)) (≤ℚ_or_<ℚ x y)

pub <ℚ_or_≡ : {x y : Rational} → x ≤ℚ y → (x <ℚ y) ⊎ (x ≡ y)
<ℚ_or_≡ {x} {y} h = ⊎_elim (λ k. inr (≤ℚ_antisymm h k)) (λ k. inl k) (≤ℚ_or_<ℚ y x)

-- below, equal or above
pub three_ways : (x y : Rational) → (x <ℚ y) ⊎ (x ≡ y) ⊎ (y <ℚ x)
three_ways x y = ⊎_elim (λ h. ⊎_elim (λ k. inl k) (λ k. inr (inl k)) (<ℚ_or_≡ h)) (λ h. inr (inr h)) (≤ℚ_or_<ℚ x y)

pub ≡_or_≢ : (x y : Rational) → (x ≡ y) ⊎ (x ≢ y)
≡_or_≢ x y = ⊎_elim (λ h. inr (≢_from_<ℚ h)) (λ o. ⊎_elim (λ e. inl e) (λ h. inr (λ e. ≢_from_<ℚ h (sym e))) o) (three_ways x y)

-- ---- sums
-- a number added on the right or on the left keeps the order
pub plus_right_le : {x y : Rational} (z : Rational) → x ≤ℚ y → x +ℚ z ≤ℚ y +ℚ z
plus_right_le {x} {y} z = by_steps3 (λ x y z. x ≤ℚ y → x +ℚ z ≤ℚ y +ℚ z) (λ k a b c. simp steps (omega (arith, ints))) x y z

pub plus_left_le : {x y : Rational} (z : Rational) → x ≤ℚ y → z +ℚ x ≤ℚ z +ℚ y
plus_left_le {x} {y} z = by_steps3 (λ x y z. x ≤ℚ y → z +ℚ x ≤ℚ z +ℚ y) (λ k a b c. simp steps (omega (arith, ints))) x y z

pub plus_right_lt : {x y : Rational} (z : Rational) → x <ℚ y → x +ℚ z <ℚ y +ℚ z
plus_right_lt {x} {y} z = by_steps3 (λ x y z. x <ℚ y → x +ℚ z <ℚ y +ℚ z) (λ k a b c. simp steps (omega (arith, ints))) x y z

pub plus_left_lt : {x y : Rational} (z : Rational) → x <ℚ y → z +ℚ x <ℚ z +ℚ y
plus_left_lt {x} {y} z = by_steps3 (λ x y z. x <ℚ y → z +ℚ x <ℚ z +ℚ y) (λ k a b c. simp steps (omega (arith, ints))) x y z

-- and is struck out of it
pub plus_right_le_cancel : (x y z : Rational) → x +ℚ z ≤ℚ y +ℚ z → x ≤ℚ y
plus_right_le_cancel = by_steps3 (λ x y z. x +ℚ z ≤ℚ y +ℚ z → x ≤ℚ y) (λ k a b c. simp steps (omega (arith, ints)))

pub plus_left_le_cancel : (x y z : Rational) → z +ℚ x ≤ℚ z +ℚ y → x ≤ℚ y
plus_left_le_cancel = by_steps3 (λ x y z. z +ℚ x ≤ℚ z +ℚ y → x ≤ℚ y) (λ k a b c. simp steps (omega (arith, ints)))

pub plus_right_lt_cancel : (x y z : Rational) → x +ℚ z <ℚ y +ℚ z → x <ℚ y
plus_right_lt_cancel = by_steps3 (λ x y z. x +ℚ z <ℚ y +ℚ z → x <ℚ y) (λ k a b c. simp steps (omega (arith, ints)))

pub plus_left_lt_cancel : (x y z : Rational) → z +ℚ x <ℚ z +ℚ y → x <ℚ y
plus_left_lt_cancel = by_steps3 (λ x y z. z +ℚ x <ℚ z +ℚ y → x <ℚ y) (λ k a b c. simp steps (omega (arith, ints)))

-- inequalities are added
pub plus_le : {x y z w : Rational} → x ≤ℚ y → z ≤ℚ w → x +ℚ z ≤ℚ y +ℚ w
plus_le {x} {y} {z} {w} = by_steps4 (λ x y z w. x ≤ℚ y → z ≤ℚ w → x +ℚ z ≤ℚ y +ℚ w) (λ k a b c d. simp (steps) (omega (arith, ints))) x y z w

pub plus_lt_le : {x y z w : Rational} → x <ℚ y → z ≤ℚ w → x +ℚ z <ℚ y +ℚ w
plus_lt_le {x} {y} {z} {w} = by_steps4 (λ x y z w. x <ℚ y → z ≤ℚ w → x +ℚ z <ℚ y +ℚ w) (λ k a b c d. simp (steps) (omega (arith, ints))) x y z w

pub plus_le_lt : {x y z w : Rational} → x ≤ℚ y → z <ℚ w → x +ℚ z <ℚ y +ℚ w
plus_le_lt {x} {y} {z} {w} = by_steps4 (λ x y z w. x ≤ℚ y → z <ℚ w → x +ℚ z <ℚ y +ℚ w) (λ k a b c d. simp (steps) (omega (arith, ints))) x y z w

pub plus_lt : {x y z w : Rational} → x <ℚ y → z <ℚ w → x +ℚ z <ℚ y +ℚ w
plus_lt {x} {y} {z} {w} = by_steps4 (λ x y z w. x <ℚ y → z <ℚ w → x +ℚ z <ℚ y +ℚ w) (λ k a b c d. simp (steps) (omega (arith, ints))) x y z w

-- a number taken off keeps the order, and what is taken off reverses it
pub minus_right_le : {x y : Rational} (z : Rational) → x ≤ℚ y → x -ℚ z ≤ℚ y -ℚ z
minus_right_le {x} {y} z = by_steps3 (λ x y z. x ≤ℚ y → x -ℚ z ≤ℚ y -ℚ z) (λ k a b c. simp steps (omega (arith, ints))) x y z

pub minus_left_le : {x y : Rational} (z : Rational) → x ≤ℚ y → z -ℚ y ≤ℚ z -ℚ x
minus_left_le {x} {y} z = by_steps3 (λ x y z. x ≤ℚ y → z -ℚ y ≤ℚ z -ℚ x) (λ k a b c. simp steps (omega (arith, ints))) x y z

pub minus_right_lt : {x y : Rational} (z : Rational) → x <ℚ y → x -ℚ z <ℚ y -ℚ z
minus_right_lt {x} {y} z = by_steps3 (λ x y z. x <ℚ y → x -ℚ z <ℚ y -ℚ z) (λ k a b c. simp steps (omega (arith, ints))) x y z

pub minus_left_lt : {x y : Rational} (z : Rational) → x <ℚ y → z -ℚ y <ℚ z -ℚ x
minus_left_lt {x} {y} z = by_steps3 (λ x y z. x <ℚ y → z -ℚ y <ℚ z -ℚ x) (λ k a b c. simp steps (omega (arith, ints))) x y z

-- a summand goes to the other side
pub le_minus : (x y z : Rational) → (x ≤ℚ y -ℚ z) ↔ (x +ℚ z ≤ℚ y)
le_minus = by_steps3 (λ x y z. (x ≤ℚ y -ℚ z) ↔ (x +ℚ z ≤ℚ y)) (λ k a b c. simp steps (omega (arith, ints)))

pub minus_le : (x y z : Rational) → (x -ℚ z ≤ℚ y) ↔ (x ≤ℚ y +ℚ z)
minus_le = by_steps3 (λ x y z. (x -ℚ z ≤ℚ y) ↔ (x ≤ℚ y +ℚ z)) (λ k a b c. simp steps (omega (arith, ints)))

pub lt_minus : (x y z : Rational) → (x <ℚ y -ℚ z) ↔ (x +ℚ z <ℚ y)
lt_minus = by_steps3 (λ x y z. (x <ℚ y -ℚ z) ↔ (x +ℚ z <ℚ y)) (λ k a b c. simp steps (omega (arith, ints)))

pub minus_lt : (x y z : Rational) → (x -ℚ z <ℚ y) ↔ (x <ℚ y +ℚ z)
minus_lt = by_steps3 (λ x y z. (x -ℚ z <ℚ y) ↔ (x <ℚ y +ℚ z)) (λ k a b c. simp steps (omega (arith, ints)))

-- the opposite reverses the order
pub neg_le : (x y : Rational) → (x ≤ℚ y) ↔ (neg_ℚ y ≤ℚ neg_ℚ x)
neg_le = by_steps2 (λ x y. (x ≤ℚ y) ↔ (neg_ℚ y ≤ℚ neg_ℚ x)) (λ k a b. simp steps (omega (arith, ints)))

pub neg_lt : (x y : Rational) → (x <ℚ y) ↔ (neg_ℚ y <ℚ neg_ℚ x)
neg_lt = by_steps2 (λ x y. (x <ℚ y) ↔ (neg_ℚ y <ℚ neg_ℚ x)) (λ k a b. simp steps (omega (arith, ints)))

-- what differs by a positive number is above
pub le_by_difference : (x y : Rational) → (x ≤ℚ y) ↔ (whole (pos 0) ≤ℚ y -ℚ x)
le_by_difference = by_steps2 (λ x y. (x ≤ℚ y) ↔ (whole (pos 0) ≤ℚ y -ℚ x)) (λ k a b. simp (zero_count k, steps) (omega (arith, ints)))

pub plus_above_le : {t : Rational} (x : Rational) → whole (pos 0) ≤ℚ t → x ≤ℚ x +ℚ t
plus_above_le {t} x = by_steps2 (λ t x. whole (pos 0) ≤ℚ t → x ≤ℚ x +ℚ t) (λ k a b. simp (zero_count k, steps) (omega (arith, ints))) t x

pub minus_beneath_le : {t : Rational} (x : Rational) → whole (pos 0) ≤ℚ t → x -ℚ t ≤ℚ x
minus_beneath_le {t} x = by_steps2 (λ t x. whole (pos 0) ≤ℚ t → x -ℚ t ≤ℚ x) (λ k a b. simp (zero_count k, steps) (omega (arith, ints))) t x

pub lt_by_difference : (x y : Rational) → (x <ℚ y) ↔ (whole (pos 0) <ℚ y -ℚ x)
lt_by_difference = by_steps2 (λ x y. (x <ℚ y) ↔ (whole (pos 0) <ℚ y -ℚ x)) (λ k a b. simp (zero_count k, steps) (omega (arith, ints)))

pub plus_above_lt : {t : Rational} (x : Rational) → whole (pos 0) <ℚ t → x <ℚ x +ℚ t
plus_above_lt {t} x = by_steps2 (λ t x. whole (pos 0) <ℚ t → x <ℚ x +ℚ t) (λ k a b. simp (zero_count k, steps) (omega (arith, ints))) t x

pub minus_beneath_lt : {t : Rational} (x : Rational) → whole (pos 0) <ℚ t → x -ℚ t <ℚ x
minus_beneath_lt {t} x = by_steps2 (λ t x. whole (pos 0) <ℚ t → x -ℚ t <ℚ x) (λ k a b. simp (zero_count k, steps) (omega (arith, ints))) t x

-- ---- products with a positive number
positive_by : (r : Rational) (a : ℤ) → r.num ≡ a → pos 0 <ℤ a → (m : ℕ) × (0 < m) × Over (pos m) r.den r
positive_by r (pos m) e h = (m, omega (arith, ints), subst (λ (n : ℤ). Over n r.den r) e (Over-self r))
positive_by r (negsuc m) e h = absurd (h.lt)

-- a positive number is a positive one over another
pub positive_over : (r : Rational) → whole (pos 0) <ℚ r → (m : ℕ) × (0 < m) × Over (pos m) r.den r
positive_over r h = positive_by r r.num refl (num_from_lt (Over-zero r.den (den_positive r)) (Over-self r) h)

pub over_positive : {m d : ℕ} {r : Rational} → 0 < m → Over (pos m) d r → whole (pos 0) <ℚ r
over_positive h o = lt_from_num (Over-zero _ o.positive) o (above _ h)
  where
    above : (m : ℕ) → 0 < m → pos 0 <ℤ pos m
    above m h = omega (arith, ints)

steps_times_le : (a b : ℤ) (k m e : ℕ) (r : Rational) → 0 < m → Over (pos m) e r → (step a k ≤ℚ step b k) ↔ (step a k *ℚ r ≤ℚ step b k *ℚ r)
steps_times_le a b k m e r h o =
    let s = Over-step a k in
    let t = Over-step b k in (
      λ g. le_from_num (Over-times s o) (Over-times t o) (times_le a b m (num_from_le s t g)),
      λ g. le_from_num s t (times_le_cancel a b m h (num_from_le (Over-times s o) (Over-times t o) g)),
    )

steps_times_lt : (a b : ℤ) (k m e : ℕ) (r : Rational) → 0 < m → Over (pos m) e r → (step a k <ℚ step b k) ↔ (step a k *ℚ r <ℚ step b k *ℚ r)
steps_times_lt a b k m e r h o =
    let s = Over-step a k in
    let t = Over-step b k in (
      λ g. lt_from_num (Over-times s o) (Over-times t o) (times_lt a b m h (num_from_lt s t g)),
      λ g. lt_from_num s t (times_lt_cancel a b m (num_from_lt (Over-times s o) (Over-times t o) g)),
    )

-- a positive factor keeps the order, both ways
pub times_pos_le : (x y r : Rational) → whole (pos 0) <ℚ r → (x ≤ℚ y) ↔ (x *ℚ r ≤ℚ y *ℚ r)
times_pos_le x y r h =
    let p = positive_over r h in
    by_steps2 (λ x y. (x ≤ℚ y) ↔ (x *ℚ r ≤ℚ y *ℚ r)) (λ k a b. steps_times_le a b k p.0 r.den r p.1 p.2) x y

pub times_pos_lt : (x y r : Rational) → whole (pos 0) <ℚ r → (x <ℚ y) ↔ (x *ℚ r <ℚ y *ℚ r)
times_pos_lt x y r h =
    let p = positive_over r h in
    by_steps2 (λ x y. (x <ℚ y) ↔ (x *ℚ r <ℚ y *ℚ r)) (λ k a b. steps_times_lt a b k p.0 r.den r p.1 p.2) x y

pub pos_times_le : (x y r : Rational) → whole (pos 0) <ℚ r → (x ≤ℚ y) ↔ (r *ℚ x ≤ℚ r *ℚ y)
pos_times_le x y r h = subst₂ (λ u v. (x ≤ℚ y) ↔ (u ≤ℚ v)) (*ℚ_comm x r) (*ℚ_comm y r) (times_pos_le x y r h)

pub pos_times_lt : (x y r : Rational) → whole (pos 0) <ℚ r → (x <ℚ y) ↔ (r *ℚ x <ℚ r *ℚ y)
pos_times_lt x y r h = subst₂ (λ u v. (x <ℚ y) ↔ (u <ℚ v)) (*ℚ_comm x r) (*ℚ_comm y r) (times_pos_lt x y r h)

-- the inverse of a positive number is positive
pub inverse_positive : {r : Rational} → whole (pos 0) <ℚ r → whole (pos 0) <ℚ inverse r
inverse_positive {r} h = let p = positive_over r h in over_positive (den_positive r) (Over-inverse p.1 p.2)

-- a positive divisor keeps the order, both ways
pub divide_pos_le : (x y r : Rational) → whole (pos 0) <ℚ r → (x ≤ℚ y) ↔ (x /ℚ r ≤ℚ y /ℚ r)
unfolding ◌/ℚ◌
divide_pos_le x y r h = times_pos_le x y (inverse r) (inverse_positive h)

pub divide_pos_lt : (x y r : Rational) → whole (pos 0) <ℚ r → (x <ℚ y) ↔ (x /ℚ r <ℚ y /ℚ r)
unfolding ◌/ℚ◌
divide_pos_lt x y r h = times_pos_lt x y (inverse r) (inverse_positive h)

-- a positive number is not zero
pub ≢_from_positive : {r : Rational} → whole (pos 0) <ℚ r → r ≢ whole (pos 0)
≢_from_positive h e = ≢_from_<ℚ h (sym e)

-- a positive divisor goes to the other side as a factor
pub le_divide : (x y r : Rational) → whole (pos 0) <ℚ r → (x ≤ℚ y /ℚ r) ↔ (x *ℚ r ≤ℚ y)
le_divide x y r h = subst (λ z. (x ≤ℚ y /ℚ r) ↔ (x *ℚ r ≤ℚ z)) (/ℚ-times y r (≢_from_positive h)) (times_pos_le x (y /ℚ r) r h)

pub lt_divide : (x y r : Rational) → whole (pos 0) <ℚ r → (x <ℚ y /ℚ r) ↔ (x *ℚ r <ℚ y)
lt_divide x y r h = subst (λ z. (x <ℚ y /ℚ r) ↔ (x *ℚ r <ℚ z)) (/ℚ-times y r (≢_from_positive h)) (times_pos_lt x (y /ℚ r) r h)

pub divide_le : (x y r : Rational) → whole (pos 0) <ℚ r → (x /ℚ r ≤ℚ y) ↔ (x ≤ℚ y *ℚ r)
divide_le x y r h = subst (λ z. (x /ℚ r ≤ℚ y) ↔ (z ≤ℚ y *ℚ r)) (/ℚ-times x r (≢_from_positive h)) (times_pos_le (x /ℚ r) y r h)

pub divide_lt : (x y r : Rational) → whole (pos 0) <ℚ r → (x /ℚ r <ℚ y) ↔ (x <ℚ y *ℚ r)
divide_lt x y r h = subst (λ z. (x /ℚ r <ℚ y) ↔ (z <ℚ y *ℚ r)) (/ℚ-times x r (≢_from_positive h)) (times_pos_lt (x /ℚ r) y r h)

-- positive numbers multiply and divide to positive ones
pub times_positive : {x y : Rational} → whole (pos 0) <ℚ x → whole (pos 0) <ℚ y → whole (pos 0) <ℚ x *ℚ y
times_positive {x} {y} h k =
    let p = positive_over x h in
    let q = positive_over y k in
    over_positive (mul-pos p.1 q.1) (Over-times p.2 q.2)

pub divide_positive : {x y : Rational} → whole (pos 0) <ℚ x → whole (pos 0) <ℚ y → whole (pos 0) <ℚ x /ℚ y
unfolding ◌/ℚ◌
divide_positive h k = times_positive h (inverse_positive k)

-- and numbers that are not negative to one that is not
pub times_not_negative : {x y : Rational} → whole (pos 0) ≤ℚ x → whole (pos 0) ≤ℚ y → whole (pos 0) ≤ℚ x *ℚ y
times_not_negative {x} {y} h k =
    ⊎_elim
    (λ p. ⊎_elim (λ q. ≤ℚ_from_<ℚ (times_positive p q)) (λ q. ≤ℚ_from_same (sym (ap (λ z. x *ℚ z) (sym q) ∙ *ℚ-zero x))) (<ℚ_or_≡ k))
    (λ p. ≤ℚ_from_same (sym (ap (λ z. z *ℚ y) (sym p) ∙ *ℚ_comm (whole (pos 0)) y ∙ *ℚ-zero y)))
    (<ℚ_or_≡ h)

pub divide_not_negative : {x y : Rational} → whole (pos 0) ≤ℚ x → whole (pos 0) <ℚ y → whole (pos 0) ≤ℚ x /ℚ y
unfolding ◌/ℚ◌
divide_not_negative h k = times_not_negative h (≤ℚ_from_<ℚ (inverse_positive k))

-- ---- whole numbers and fractions
pub whole-le : (a b : ℤ) → (a ≤ℤ b) ↔ (whole a ≤ℚ whole b)
whole-le a b = (le_from_num (Over-whole a) (Over-whole b), num_from_le (Over-whole a) (Over-whole b))

pub whole-lt : (a b : ℤ) → (a <ℤ b) ↔ (whole a <ℚ whole b)
whole-lt a b = (lt_from_num (Over-whole a) (Over-whole b), num_from_lt (Over-whole a) (Over-whole b))

pub whole-same : (a b : ℤ) → (a ≡ b) ↔ (whole a ≡ whole b)
whole-same a b = (ap whole, num_from_same (Over-whole a) (Over-whole b))

pub whole_positive : (n : ℕ) → 0 < n → whole (pos 0) <ℚ whole (pos n)
whole_positive n h = over_positive h (Over-whole (pos n))

pub frac_positive : (n d : ℕ) → 0 < n → 0 < d → whole (pos 0) <ℚ frac (pos n) d
frac_positive n d h k = over_positive h (Over-frac (pos n) d k)

pub frac-le : (n m : ℤ) (d : ℕ) → 0 < d → (n ≤ℤ m) ↔ (frac n d ≤ℚ frac m d)
frac-le n m d h = (le_from_num (Over-frac n d h) (Over-frac m d h), num_from_le (Over-frac n d h) (Over-frac m d h))

pub frac-lt : (n m : ℤ) (d : ℕ) → 0 < d → (n <ℤ m) ↔ (frac n d <ℚ frac m d)
frac-lt n m d h = (lt_from_num (Over-frac n d h) (Over-frac m d h), num_from_lt (Over-frac n d h) (Over-frac m d h))
