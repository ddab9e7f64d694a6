-- The less and the greater of two rationals: bounds, laws, and what goes through them.
use Rattle.std.proofs.Common.{◌≡◌, ℤ, pos, ◌≤ℤ◌, ◌<ℤ◌, ◌↔◌, ◌⊎◌, inl, inr, ⊎_elim, arith, sym, ap, ◌∙◌, subst}
use Rattle.std.specs.Int.{int_min, int_max}
use Rattle.std.proofs.lemmas.Int.{ints, clamps}
use Rattle.tdl_fraction.specs.Rational.{Rational, whole, ◌+ℚ◌, ◌-ℚ◌, ◌*ℚ◌, ◌/ℚ◌, neg_ℚ, ◌≤ℚ◌, ◌<ℚ◌, min_ℚ, max_ℚ}
use Rattle.tdl_fraction.proofs.Order.{≤ℚ_or_<ℚ, ≤ℚ_from_<ℚ, whole-le, whole-lt, times_pos_le, divide_pos_le}
use Rattle.tdl_fraction.proofs.CommonStep.{steps, step-same, by_steps1, by_steps2, by_steps3, by_steps4}

-- ---- bounds
pub min_le_left : (x y : Rational) → min_ℚ x y ≤ℚ x
min_le_left = by_steps2 (λ x y. min_ℚ x y ≤ℚ x) (λ k a b. simp (steps) (omega (arith, ints, clamps)))

pub min_le_right : (x y : Rational) → min_ℚ x y ≤ℚ y
min_le_right = by_steps2 (λ x y. min_ℚ x y ≤ℚ y) (λ k a b. simp (steps) (omega (arith, ints, clamps)))

pub le_max_left : (x y : Rational) → x ≤ℚ max_ℚ x y
le_max_left = by_steps2 (λ x y. x ≤ℚ max_ℚ x y) (λ k a b. simp (steps) (omega (arith, ints, clamps)))

pub le_max_right : (x y : Rational) → y ≤ℚ max_ℚ x y
le_max_right = by_steps2 (λ x y. y ≤ℚ max_ℚ x y) (λ k a b. simp (steps) (omega (arith, ints, clamps)))

-- the less is the greatest lower bound, the greater the least upper one
pub le_min : (x y z : Rational) → (z ≤ℚ min_ℚ x y) ↔ ((z ≤ℚ x) × (z ≤ℚ y))
le_min = by_steps3 (λ x y z. (z ≤ℚ min_ℚ x y) ↔ ((z ≤ℚ x) × (z ≤ℚ y))) (λ k a b c. simp (steps) (omega (arith, ints, clamps)))

pub lt_min : (x y z : Rational) → (z <ℚ min_ℚ x y) ↔ ((z <ℚ x) × (z <ℚ y))
lt_min = by_steps3 (λ x y z. (z <ℚ min_ℚ x y) ↔ ((z <ℚ x) × (z <ℚ y))) (λ k a b c. simp (steps) (omega (arith, ints, clamps)))

pub max_le : (x y z : Rational) → (max_ℚ x y ≤ℚ z) ↔ ((x ≤ℚ z) × (y ≤ℚ z))
max_le = by_steps3 (λ x y z. (max_ℚ x y ≤ℚ z) ↔ ((x ≤ℚ z) × (y ≤ℚ z))) (λ k a b c. simp (steps) (omega (arith, ints, clamps)))

pub max_lt : (x y z : Rational) → (max_ℚ x y <ℚ z) ↔ ((x <ℚ z) × (y <ℚ z))
max_lt = by_steps3 (λ x y z. (max_ℚ x y <ℚ z) ↔ ((x <ℚ z) × (y <ℚ z))) (λ k a b c. simp (steps) (omega (arith, ints, clamps)))

-- ---- which of the two
pub min-left : {x y : Rational} → x ≤ℚ y → min_ℚ x y ≡ x
min-left {x} {y} = by_steps2 (λ x y. x ≤ℚ y → min_ℚ x y ≡ x) (λ k a b. simp (steps, step-same) (omega (arith, ints, clamps))) x y

pub min-right : {x y : Rational} → y ≤ℚ x → min_ℚ x y ≡ y
min-right {x} {y} = by_steps2 (λ x y. y ≤ℚ x → min_ℚ x y ≡ y) (λ k a b. simp (steps, step-same) (omega (arith, ints, clamps))) x y

pub max-left : {x y : Rational} → y ≤ℚ x → max_ℚ x y ≡ x
max-left {x} {y} = by_steps2 (λ x y. y ≤ℚ x → max_ℚ x y ≡ x) (λ k a b. simp (steps, step-same) (omega (arith, ints, clamps))) x y

pub max-right : {x y : Rational} → x ≤ℚ y → max_ℚ x y ≡ y
max-right {x} {y} = by_steps2 (λ x y. x ≤ℚ y → max_ℚ x y ≡ y) (λ k a b. simp (steps, step-same) (omega (arith, ints, clamps))) x y

pub min_cases : (x y : Rational) → ((x ≤ℚ y) × (min_ℚ x y ≡ x)) ⊎ ((y <ℚ x) × (min_ℚ x y ≡ y))
min_cases x y = ⊎_elim (λ h. inl (h, min-left h)) (λ h. inr (h, min-right (≤ℚ_from_<ℚ h))) (≤ℚ_or_<ℚ x y)

pub max_cases : (x y : Rational) → ((x ≤ℚ y) × (max_ℚ x y ≡ y)) ⊎ ((y <ℚ x) × (max_ℚ x y ≡ x))
max_cases x y = ⊎_elim (λ h. inl (h, max-right h)) (λ h. inr (h, max-left (≤ℚ_from_<ℚ h))) (≤ℚ_or_<ℚ x y)

-- what holds of both holds of the less and of the greater
pub min_either : (P : Rational → Type 0) (x y : Rational) → P x → P y → P (min_ℚ x y)
min_either P x y h k = ⊎_elim (λ c. subst P (sym c.1) h) (λ c. subst P (sym c.1) k) (min_cases x y)

pub max_either : (P : Rational → Type 0) (x y : Rational) → P x → P y → P (max_ℚ x y)
max_either P x y h k = ⊎_elim (λ c. subst P (sym c.1) k) (λ c. subst P (sym c.1) h) (max_cases x y)

-- ---- laws
pub min_comm : (x y : Rational) → min_ℚ x y ≡ min_ℚ y x
min_comm = by_steps2 (λ x y. min_ℚ x y ≡ min_ℚ y x) (λ k a b. simp (steps, step-same) (omega (arith, ints, clamps)))

pub max_comm : (x y : Rational) → max_ℚ x y ≡ max_ℚ y x
max_comm = by_steps2 (λ x y. max_ℚ x y ≡ max_ℚ y x) (λ k a b. simp (steps, step-same) (omega (arith, ints, clamps)))

pub min_assoc : (x y z : Rational) → min_ℚ (min_ℚ x y) z ≡ min_ℚ x (min_ℚ y z)
min_assoc = by_steps3 (λ x y z. min_ℚ (min_ℚ x y) z ≡ min_ℚ x (min_ℚ y z)) (λ k a b c. simp (steps, step-same) (omega (arith, ints, clamps)))

pub max_assoc : (x y z : Rational) → max_ℚ (max_ℚ x y) z ≡ max_ℚ x (max_ℚ y z)
max_assoc = by_steps3 (λ x y z. max_ℚ (max_ℚ x y) z ≡ max_ℚ x (max_ℚ y z)) (λ k a b c. simp (steps, step-same) (omega (arith, ints, clamps)))

pub min_self : (x : Rational) → min_ℚ x x ≡ x
min_self = by_steps1 (λ x. min_ℚ x x ≡ x) (λ k a. simp (steps, step-same) (omega (arith, ints, clamps)))

pub max_self : (x : Rational) → max_ℚ x x ≡ x
max_self = by_steps1 (λ x. max_ℚ x x ≡ x) (λ k a. simp (steps, step-same) (omega (arith, ints, clamps)))

-- one absorbs the other
pub min-max : (x y : Rational) → min_ℚ x (max_ℚ x y) ≡ x
min-max = by_steps2 (λ x y. min_ℚ x (max_ℚ x y) ≡ x) (λ k a b. simp (steps, step-same) (omega (arith, ints, clamps)))

pub max-min : (x y : Rational) → max_ℚ x (min_ℚ x y) ≡ x
max-min = by_steps2 (λ x y. max_ℚ x (min_ℚ x y) ≡ x) (λ k a b. simp (steps, step-same) (omega (arith, ints, clamps)))

-- the two together are the two numbers
pub min-plus-max : (x y : Rational) → min_ℚ x y +ℚ max_ℚ x y ≡ x +ℚ y
min-plus-max = by_steps2 (λ x y. min_ℚ x y +ℚ max_ℚ x y ≡ x +ℚ y) (λ k a b. simp (steps, step-same) (omega (arith, ints, clamps)))

-- both keep the order
pub min_keeps : (x y z w : Rational) → x ≤ℚ z → y ≤ℚ w → min_ℚ x y ≤ℚ min_ℚ z w
min_keeps = by_steps4 (λ x y z w. x ≤ℚ z → y ≤ℚ w → min_ℚ x y ≤ℚ min_ℚ z w) (λ k a b c d. simp (steps) (omega (arith, ints, clamps)))

pub max_keeps : (x y z w : Rational) → x ≤ℚ z → y ≤ℚ w → max_ℚ x y ≤ℚ max_ℚ z w
max_keeps = by_steps4 (λ x y z w. x ≤ℚ z → y ≤ℚ w → max_ℚ x y ≤ℚ max_ℚ z w) (λ k a b c d. simp (steps) (omega (arith, ints, clamps)))

-- ---- what goes through
pub min-plus : (x y z : Rational) → min_ℚ x y +ℚ z ≡ min_ℚ (x +ℚ z) (y +ℚ z)
min-plus = by_steps3 (λ x y z. min_ℚ x y +ℚ z ≡ min_ℚ (x +ℚ z) (y +ℚ z)) (λ k a b c. simp (steps, step-same) (omega (arith, ints, clamps)))

pub max-plus : (x y z : Rational) → max_ℚ x y +ℚ z ≡ max_ℚ (x +ℚ z) (y +ℚ z)
max-plus = by_steps3 (λ x y z. max_ℚ x y +ℚ z ≡ max_ℚ (x +ℚ z) (y +ℚ z)) (λ k a b c. simp (steps, step-same) (omega (arith, ints, clamps)))

pub min-minus : (x y z : Rational) → min_ℚ x y -ℚ z ≡ min_ℚ (x -ℚ z) (y -ℚ z)
min-minus = by_steps3 (λ x y z. min_ℚ x y -ℚ z ≡ min_ℚ (x -ℚ z) (y -ℚ z)) (λ k a b c. simp (steps, step-same) (omega (arith, ints, clamps)))

pub max-minus : (x y z : Rational) → max_ℚ x y -ℚ z ≡ max_ℚ (x -ℚ z) (y -ℚ z)
max-minus = by_steps3 (λ x y z. max_ℚ x y -ℚ z ≡ max_ℚ (x -ℚ z) (y -ℚ z)) (λ k a b c. simp (steps, step-same) (omega (arith, ints, clamps)))

pub plus-min : (x y z : Rational) → z +ℚ min_ℚ x y ≡ min_ℚ (z +ℚ x) (z +ℚ y)
plus-min = by_steps3 (λ x y z. z +ℚ min_ℚ x y ≡ min_ℚ (z +ℚ x) (z +ℚ y)) (λ k a b c. simp (steps, step-same) (omega (arith, ints, clamps)))

pub plus-max : (x y z : Rational) → z +ℚ max_ℚ x y ≡ max_ℚ (z +ℚ x) (z +ℚ y)
plus-max = by_steps3 (λ x y z. z +ℚ max_ℚ x y ≡ max_ℚ (z +ℚ x) (z +ℚ y)) (λ k a b c. simp (steps, step-same) (omega (arith, ints, clamps)))

-- the opposite of the less is the greater of the opposites
pub neg-min : (x y : Rational) → neg_ℚ (min_ℚ x y) ≡ max_ℚ (neg_ℚ x) (neg_ℚ y)
neg-min = by_steps2 (λ x y. neg_ℚ (min_ℚ x y) ≡ max_ℚ (neg_ℚ x) (neg_ℚ y)) (λ k a b. simp (steps, step-same) (omega (arith, ints, clamps)))

pub neg-max : (x y : Rational) → neg_ℚ (max_ℚ x y) ≡ min_ℚ (neg_ℚ x) (neg_ℚ y)
neg-max = by_steps2 (λ x y. neg_ℚ (max_ℚ x y) ≡ min_ℚ (neg_ℚ x) (neg_ℚ y)) (λ k a b. simp (steps, step-same) (omega (arith, ints, clamps)))

-- a map that keeps the order
pub min_through : (f : Rational → Rational) → ((x y : Rational) → x ≤ℚ y → f x ≤ℚ f y) → (x y : Rational) → f (min_ℚ x y) ≡ min_ℚ (f x) (f y)
min_through f m x y =
    ⊎_elim
    (λ c. ap f c.1 ∙ sym (min-left (m x y c.0)))
    (λ c. ap f c.1 ∙ sym (min-right (m y x (≤ℚ_from_<ℚ c.0))))
    (min_cases x y)

pub max_through : (f : Rational → Rational) → ((x y : Rational) → x ≤ℚ y → f x ≤ℚ f y) → (x y : Rational) → f (max_ℚ x y) ≡ max_ℚ (f x) (f y)
max_through f m x y =
    ⊎_elim
    (λ c. ap f c.1 ∙ sym (max-right (m x y c.0)))
    (λ c. ap f c.1 ∙ sym (max-left (m y x (≤ℚ_from_<ℚ c.0))))
    (max_cases x y)

-- a map that reverses it
pub min_reversed : (f : Rational → Rational) → ((x y : Rational) → x ≤ℚ y → f y ≤ℚ f x) → (x y : Rational) → f (min_ℚ x y) ≡ max_ℚ (f x) (f y)
min_reversed f m x y =
    ⊎_elim
    (λ c. ap f c.1 ∙ sym (max-left (m x y c.0)))
    (λ c. ap f c.1 ∙ sym (max-right (m y x (≤ℚ_from_<ℚ c.0))))
    (min_cases x y)

pub max_reversed : (f : Rational → Rational) → ((x y : Rational) → x ≤ℚ y → f y ≤ℚ f x) → (x y : Rational) → f (max_ℚ x y) ≡ min_ℚ (f x) (f y)
max_reversed f m x y =
    ⊎_elim
    (λ c. ap f c.1 ∙ sym (min-right (m x y c.0)))
    (λ c. ap f c.1 ∙ sym (min-left (m y x (≤ℚ_from_<ℚ c.0))))
    (max_cases x y)

-- a positive factor, and a positive divisor
pub min-times : (x y r : Rational) → whole (pos 0) <ℚ r → min_ℚ x y *ℚ r ≡ min_ℚ (x *ℚ r) (y *ℚ r)
min-times x y r h = min_through (λ x. x *ℚ r) (λ x y. (times_pos_le x y r h).0) x y

pub max-times : (x y r : Rational) → whole (pos 0) <ℚ r → max_ℚ x y *ℚ r ≡ max_ℚ (x *ℚ r) (y *ℚ r)
max-times x y r h = max_through (λ x. x *ℚ r) (λ x y. (times_pos_le x y r h).0) x y

pub min-divide : (x y r : Rational) → whole (pos 0) <ℚ r → min_ℚ x y /ℚ r ≡ min_ℚ (x /ℚ r) (y /ℚ r)
min-divide x y r h = min_through (λ x. x /ℚ r) (λ x y. (divide_pos_le x y r h).0) x y

pub max-divide : (x y r : Rational) → whole (pos 0) <ℚ r → max_ℚ x y /ℚ r ≡ max_ℚ (x /ℚ r) (y /ℚ r)
max-divide x y r h = max_through (λ x. x /ℚ r) (λ x y. (divide_pos_le x y r h).0) x y

-- ---- whole numbers
pub whole-min : (a b : ℤ) → whole (int_min a b) ≡ min_ℚ (whole a) (whole b)
whole-min a b =
    ⊎_elim
    (λ c. ap whole (left a b ((whole-le a b).1 c.0)) ∙ sym c.1)
    (λ c. ap whole (right a b ((whole-lt b a).1 c.0)) ∙ sym c.1)
    (min_cases (whole a) (whole b))
  where
    left : (a b : ℤ) → a ≤ℤ b → int_min a b ≡ a
    left a b h = omega (arith, ints, clamps)

    right : (a b : ℤ) → b <ℤ a → int_min a b ≡ b
    right a b h = omega (arith, ints, clamps)

pub whole-max : (a b : ℤ) → whole (int_max a b) ≡ max_ℚ (whole a) (whole b)
whole-max a b =
    ⊎_elim
    (λ c. ap whole (right a b ((whole-le a b).1 c.0)) ∙ sym c.1)
    (λ c. ap whole (left a b ((whole-lt b a).1 c.0)) ∙ sym c.1)
    (max_cases (whole a) (whole b))
  where
    right : (a b : ℤ) → a ≤ℤ b → int_max a b ≡ b
    right a b h = omega (arith, ints, clamps)

    left : (a b : ℤ) → b <ℤ a → int_max a b ≡ a
    left a b h = omega (arith, ints, clamps)
