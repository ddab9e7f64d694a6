-- Numbers on a common step: each is some whole count over one `suc k`, and order, sums, least and greatest are those of the counts.
use Rattle.std.proofs.Common.{◌≡◌, ℕ, suc, pred, ◌*◌, ◌<◌, List, [], ◌∷◌, ℤ, pos, ◌+ℤ◌, ◌-ℤ◌, ◌*ℤ◌, neg_ℤ, ◌≤ℤ◌, ◌<ℤ◌, ◌↔◌, Bool, true, false, cond, arith}
use Rattle.std.proofs.Common.{refl, sym, ap, ◌∙◌, subst}
use Rattle.std.specs.Int.{int_min, int_max}
use Rattle.std.proofs.lemmas.Int.{ints, clamps}
use native.Mathlib.Nat.{suc-pred-eq_of_pos, mul_comm, mul-pos}
use Rattle.tdl_fraction.proofs.Integers.{times_one as *ℤ-one}
use Rattle.tdl_fraction.specs.Rational.{Rational, frac, whole, ◌+ℚ◌, ◌-ℚ◌, neg_ℚ, ◌≤ℚ◌, ◌<ℚ◌, min_ℚ, max_ℚ, le_ℚ}
use Rattle.tdl_fraction.proofs.Over.{Over, den_positive, Over-self, Over-frac, Over-scaled, Over-plus_same, Over-minus_same, Over-neg, Over-whole}
use Rattle.tdl_fraction.proofs.Over.{same_over, same_cross_over, frac_over, le_from_num, num_from_le, lt_from_num, num_from_lt, same_from_num}
use Rattle.tdl_fraction.proofs.Over.{num_from_same, le_ℚ-true, le_ℚ-false}

-- a steps of one over suc k
unfoldable pub step : ℤ → ℕ → Rational
step a k = frac a (suc k)

pub Over-step : (a : ℤ) (k : ℕ) → Over a (suc k) (step a k)
unfolding step
Over-step a k = Over-frac a (suc k) (omega arith)

pub step-plus : (a b : ℤ) (k : ℕ) → step a k +ℚ step b k ≡ step (a +ℤ b) k
step-plus a b k = same_over (Over-plus_same (Over-step a k) (Over-step b k)) (Over-step (a +ℤ b) k)

pub step-minus : (a b : ℤ) (k : ℕ) → step a k -ℚ step b k ≡ step (a -ℤ b) k
step-minus a b k = same_over (Over-minus_same (Over-step a k) (Over-step b k)) (Over-step (a -ℤ b) k)

pub step-neg : (a : ℤ) (k : ℕ) → neg_ℚ (step a k) ≡ step (neg_ℤ a) k
step-neg a k = same_over (Over-neg (Over-step a k)) (Over-step (neg_ℤ a) k)

pub step-le : (a b : ℤ) (k : ℕ) → (step a k ≤ℚ step b k) ↔ (a ≤ℤ b)
step-le a b k = (num_from_le (Over-step a k) (Over-step b k), le_from_num (Over-step a k) (Over-step b k))

pub step-lt : (a b : ℤ) (k : ℕ) → (step a k <ℚ step b k) ↔ (a <ℤ b)
step-lt a b k = (num_from_lt (Over-step a k) (Over-step b k), lt_from_num (Over-step a k) (Over-step b k))

pub step-same : (a b : ℤ) (k : ℕ) → (step a k ≡ step b k) ↔ (a ≡ b)
step-same a b k = (num_from_same (Over-step a k) (Over-step b k), same_from_num (Over-step a k) (Over-step b k))

-- a whole number on the step: give both arguments, since its left side does not show k
pub whole-step : (n : ℤ) (k : ℕ) → whole n ≡ step (n *ℤ pos (suc k)) k
whole-step n k = same_cross_over (Over-whole n) (Over-step (n *ℤ pos (suc k)) k) (sym (*ℤ-one (n *ℤ pos (suc k))))

-- zero on the step
pub zero_count : (k : ℕ) → whole (pos 0) ≡ step (pos 0) k
zero_count k = whole-step (pos 0) k ∙ ap (λ n. step (pos n) k) (omega arith)

min_by : (a b : ℤ) (k : ℕ) (t : Bool) → le_ℚ (step a k) (step b k) ≡ t → cond t (step a k) (step b k) ≡ step (int_min a b) k
min_by a b k true e = let h : a ≤ℤ b = (step-le a b k).0 ((le_ℚ-true _ _).0 e) in ap (λ n. step n k) (least a b h)
  where
    least : (a b : ℤ) → a ≤ℤ b → a ≡ int_min a b
    least a b h = omega (arith, ints, clamps)
min_by a b k false e = let h : b <ℤ a = (step-lt b a k).0 ((le_ℚ-false _ _).0 e) in ap (λ n. step n k) (least a b h)
  where
    least : (a b : ℤ) → b <ℤ a → b ≡ int_min a b
    least a b h = omega (arith, ints, clamps)

max_by : (a b : ℤ) (k : ℕ) (t : Bool) → le_ℚ (step a k) (step b k) ≡ t → cond t (step b k) (step a k) ≡ step (int_max a b) k
max_by a b k true e = let h : a ≤ℤ b = (step-le a b k).0 ((le_ℚ-true _ _).0 e) in ap (λ n. step n k) (greatest a b h)
  where
    greatest : (a b : ℤ) → a ≤ℤ b → b ≡ int_max a b
    greatest a b h = omega (arith, ints, clamps)
max_by a b k false e = let h : b <ℤ a = (step-lt b a k).0 ((le_ℚ-false _ _).0 e) in ap (λ n. step n k) (greatest a b h)
  where
    greatest : (a b : ℤ) → b <ℤ a → a ≡ int_max a b
    greatest a b h = omega (arith, ints, clamps)

pub step-min : (a b : ℤ) (k : ℕ) → min_ℚ (step a k) (step b k) ≡ step (int_min a b) k
unfolding min_ℚ
step-min a b k = min_by a b k (le_ℚ (step a k) (step b k)) refl

pub step-max : (a b : ℤ) (k : ℕ) → max_ℚ (step a k) (step b k) ≡ step (int_max a b) k
unfolding max_ℚ
step-max a b k = max_by a b k (le_ℚ (step a k) (step b k)) refl

-- for `simp`: what is said of numbers on one step, said of the counts
pub ruleset steps = (step-plus, step-minus, step-neg, step-min, step-max, step-le, step-lt)

-- ---- a common step
-- each is some whole count over d
CountedOver : ℕ → List Rational → Type 0
CountedOver d [] = Unit
CountedOver d (x ∷ xs) = ((a : ℤ) × Over a d x) × CountedOver d xs

more_over : (d e : ℕ) (xs : List Rational) → 0 < e → CountedOver d xs → CountedOver (d * e) xs
unfolding CountedOver
more_over d e [] h c = tt
more_over d e (x ∷ xs) h c = ((c.0.0 *ℤ pos e, Over-scaled e c.0.1 h), more_over d e xs h c.1)

one_over : (d : ℕ) (x : Rational) → 0 < d → (a : ℤ) × Over a (d * x.den) x
one_over d x h = (x.num *ℤ pos d, subst (λ n. Over (x.num *ℤ pos d) n x) (mul_comm x.den d) (Over-scaled d (Over-self x) h))

common_denominator : (xs : List Rational) → (d : ℕ) × (0 < d) × CountedOver d xs
unfolding CountedOver
common_denominator [] = (1, omega arith, tt)
common_denominator (x ∷ xs) =
    let rest = common_denominator xs in
    (rest.0 * x.den, mul-pos rest.1 (den_positive x), (one_over rest.0 x rest.1, more_over rest.0 x.den xs (den_positive x) rest.2))

-- each is some whole count of one over suc k
abbrev pub OnStep : ℕ → List Rational → Type 0
OnStep k [] = Unit
OnStep k (x ∷ xs) = ((a : ℤ) × (x ≡ step a k)) × OnStep k xs

all_on_step : (k : ℕ) (xs : List Rational) → CountedOver (suc k) xs → OnStep k xs
unfolding CountedOver step
all_on_step k [] c = tt
all_on_step k (x ∷ xs) c = ((c.0.0, frac_over c.0.1), all_on_step k xs c.1)

-- numbers are whole counts of one step
pub common_step : (xs : List Rational) → (k : ℕ) × OnStep k xs
common_step xs =
    let found = common_denominator xs in
    (pred found.0, all_on_step (pred found.0) xs (subst (λ d. CountedOver d xs) (sym (suc-pred-eq_of_pos found.1)) found.2))

moved : (P : Rational → Type 0) (x : Rational) (k : ℕ) (o : (a : ℤ) × (x ≡ step a k)) → P (step o.0 k) → P x
moved P x k o h = subst P (sym o.1) h

-- what holds of the counts of any one step holds of any numbers
pub by_steps1 : (P : Rational → Type 0) → ((k : ℕ) (a : ℤ) → P (step a k)) → (x : Rational) → P x
by_steps1 P h x =
    let s = common_step (x ∷ []) in
    moved P x s.0 s.1.0 (h s.0 s.1.0.0)

pub by_steps2 : (P : Rational → Rational → Type 0) → ((k : ℕ) (a b : ℤ) → P (step a k) (step b k)) → (x y : Rational) → P x y
by_steps2 P h x y =
    let s = common_step (x ∷ y ∷ []) in
    moved (λ u. P u y) x s.0 s.1.0
    (moved (P (step s.1.0.0 s.0)) y s.0 s.1.1.0 (h s.0 s.1.0.0 s.1.1.0.0))

pub by_steps3 : (P : Rational → Rational → Rational → Type 0) → ((k : ℕ) (a b c : ℤ) → P (step a k) (step b k) (step c k)) → (x y z : Rational) → P x y z
by_steps3 P h x y z =
    let s = common_step (x ∷ y ∷ z ∷ []) in
    moved (λ u. P u y z) x s.0 s.1.0
    (moved (λ u. P (step s.1.0.0 s.0) u z) y s.0 s.1.1.0
    (moved (P (step s.1.0.0 s.0) (step s.1.1.0.0 s.0)) z s.0 s.1.1.1.0 (h s.0 s.1.0.0 s.1.1.0.0 s.1.1.1.0.0)))

pub by_steps4 : (P : Rational → Rational → Rational → Rational → Type 0) → ((k : ℕ) (a b c d : ℤ) → P (step a k) (step b k) (step c k) (step d k))
    → (x y z w : Rational) → P x y z w
by_steps4 P h x y z w =
    let s = common_step (x ∷ y ∷ z ∷ w ∷ []) in
    let at : ℤ → Rational = λ n. step n s.0 in
    moved (λ u. P u y z w) x s.0 s.1.0
    (moved (λ u. P (at s.1.0.0) u z w) y s.0 s.1.1.0
    (moved (λ u. P (at s.1.0.0) (at s.1.1.0.0) u w) z s.0 s.1.1.1.0
    (moved (P (at s.1.0.0) (at s.1.1.0.0) (at s.1.1.1.0.0)) w s.0 s.1.1.1.1.0 (h s.0 s.1.0.0 s.1.1.0.0 s.1.1.1.0.0 s.1.1.1.1.0.0))))

pub by_steps5 : (P : Rational → Rational → Rational → Rational → Rational → Type 0)
    → ((k : ℕ) (a b c d e : ℤ) → P (step a k) (step b k) (step c k) (step d k) (step e k)) → (x y z w v : Rational) → P x y z w v
by_steps5 P h x y z w v =
    let s = common_step (x ∷ y ∷ z ∷ w ∷ v ∷ []) in
    let at : ℤ → Rational = λ n. step n s.0 in
    moved (λ u. P u y z w v) x s.0 s.1.0
    (moved (λ u. P (at s.1.0.0) u z w v) y s.0 s.1.1.0
    (moved (λ u. P (at s.1.0.0) (at s.1.1.0.0) u w v) z s.0 s.1.1.1.0
    (moved (λ u. P (at s.1.0.0) (at s.1.1.0.0) (at s.1.1.1.0.0) u v) w s.0 s.1.1.1.1.0
    (moved (P (at s.1.0.0) (at s.1.1.0.0) (at s.1.1.1.0.0) (at s.1.1.1.1.0.0)) v s.0 s.1.1.1.1.1.0
    (h s.0 s.1.0.0 s.1.1.0.0 s.1.1.1.0.0 s.1.1.1.1.0.0 s.1.1.1.1.1.0.0)))))

pub by_steps6 : (P : Rational → Rational → Rational → Rational → Rational → Rational → Type 0)
    → ((k : ℕ) (a b c d e f : ℤ) → P (step a k) (step b k) (step c k) (step d k) (step e k) (step f k)) → (x y z w v t : Rational) → P x y z w v t
by_steps6 P h x y z w v t =
    let s = common_step (x ∷ y ∷ z ∷ w ∷ v ∷ t ∷ []) in
    let at : ℤ → Rational = λ n. step n s.0 in
    moved (λ u. P u y z w v t) x s.0 s.1.0
    (moved (λ u. P (at s.1.0.0) u z w v t) y s.0 s.1.1.0
    (moved (λ u. P (at s.1.0.0) (at s.1.1.0.0) u w v t) z s.0 s.1.1.1.0
    (moved (λ u. P (at s.1.0.0) (at s.1.1.0.0) (at s.1.1.1.0.0) u v t) w s.0 s.1.1.1.1.0
    (moved (λ u. P (at s.1.0.0) (at s.1.1.0.0) (at s.1.1.1.0.0) (at s.1.1.1.1.0.0) u t) v s.0 s.1.1.1.1.1.0
    (moved (P (at s.1.0.0) (at s.1.1.0.0) (at s.1.1.1.0.0) (at s.1.1.1.1.0.0) (at s.1.1.1.1.1.0.0)) t s.0 s.1.1.1.1.1.1.0
    (h s.0 s.1.0.0 s.1.1.0.0 s.1.1.1.0.0 s.1.1.1.1.0.0 s.1.1.1.1.1.0.0 s.1.1.1.1.1.1.0.0))))))
