-- The times between, on the way into the share of a step: each of them is a fraction of the program.
use Rattle.std.proofs.Common.{◌≡◌, ℕ, suc, ◌+◌, ◌*◌, ◌<◌, ◌≤◌, ◌^◌, ℤ, pos, ◌+ℤ◌, ◌-ℤ◌, ◌*ℤ◌, neg_ℤ, nat_abs, to_z, of_z, w64, ap, ◌∙◌, subst, arith}
use Rattle.std.proofs.Math.Nat.{mul-pos, mul-le-mul_left, mul-le-mul_right}
use Rattle.std.proofs.lemmas.Int.{ints}
use Rattle.tdl_fraction.specs.Rational.{Rational, whole, ◌+ℚ◌, ◌-ℚ◌, ◌*ℚ◌, ◌/ℚ◌, ◌≤ℚ◌, IsMultiple}
use Rattle.tdl_fraction.specs.Range.{InRange, IsWithin}
use Rattle.tdl_fraction.proofs.Field.{+ℚ_comm, plus-whole_neg, whole-plus, +ℚ-minus}
use Rattle.tdl_fraction.proofs.Order.{≤ℚ_trans, whole-le, le_minus, minus_le}
use Rattle.tdl_fraction.proofs.Multiples.{whole_multiple, multiple_minus}
use Rattle.tdl_fraction.proofs.Ranges.{in_range}
use Rattle.tdl_fraction.proofs.Arcs.{keeps_≤ℚ}
use Rattle.tdl_meaning.specs.Pattern.{squeezed}
use Rattle.tdl_meaning.specs.Motions.{StepFits}
use Rattle.tdl_meaning.proofs.kinds.Grids.{squeezed_multiple}
use Rattle.tdl_meaning.proofs.Times.{keeps-squeezed, squeezed_start, squeezed_stop}

-- ---- the order of operations
-- from the cycle's start, and back
pub squeezed_safely : (c : ℤ) (o w W : ℕ) (t : Rational)
    → (((t +ℚ whole (neg_ℤ c)) *ℚ whole (pos w) +ℚ whole (pos o)) /ℚ whole (pos W)) +ℚ whole c ≡ squeezed c o w W t
squeezed_safely c o w W t =
    ap (λ x. ((x *ℚ whole (pos w) +ℚ whole (pos o)) /ℚ whole (pos W)) +ℚ whole c) (plus-whole_neg t c)
    ∙ ap (λ x. (x /ℚ whole (pos W)) +ℚ whole c) (+ℚ_comm ((t -ℚ whole c) *ℚ whole (pos w)) (whole (pos o)))
    ∙ +ℚ_comm ((whole (pos o) +ℚ (t -ℚ whole c) *ℚ whole (pos w)) /ℚ whole (pos W)) (whole c)

-- where it goes, from the cycle's start
pub since_squeezed : (c : ℤ) (o w W : ℕ) (t : Rational)
    → squeezed c o w W t -ℚ whole c ≡ (whole (pos o) +ℚ (t -ℚ whole c) *ℚ whole (pos w)) /ℚ whole (pos W)
since_squeezed c o w W t =
    let there = (whole (pos o) +ℚ (t -ℚ whole c) *ℚ whole (pos w)) /ℚ whole (pos W) in
    ap (λ x. x -ℚ whole c) (+ℚ_comm (whole c) there) ∙ +ℚ-minus there (whole c)

-- ---- the numbers of cycles as they are passed
pub cycle_word : (c : ℤ) → nat_abs c ≤ 2 ^ 36 → to_z w64 (of_z w64 c) ≡ c
cycle_word c h = omega (arith, ints)

pub back_word : (c : ℤ) → nat_abs c ≤ 2 ^ 36 → to_z w64 (of_z w64 (pos 0 -ℤ to_z w64 (of_z w64 c))) ≡ neg_ℤ c
back_word c h = omega (arith, ints)

pub round_word : (c : ℤ) → nat_abs c ≤ 2 ^ 36
    → to_z w64 (of_z w64 (to_z w64 (of_z w64 (pos 2 *ℤ to_z w64 (of_z w64 c))) +ℤ pos 1)) ≡ c +ℤ c +ℤ pos 1
round_word c h = omega (arith, ints)

pub weights_word : (o : ℕ) → o ≤ 2 ^ 44 → to_z w64 o ≡ pos o
weights_word o h = omega (arith, ints)

-- ---- how far the times are
-- a time that is near a cycle, from the cycle's start
pub since_within : (c : ℤ) (h : ℕ) (t : Rational) → whole (c -ℤ pos h) ≤ℚ t → t ≤ℚ whole ((c +ℤ pos 1) +ℤ pos h) → IsWithin (suc h) (t -ℚ whole c)
since_within c h t low high = record {
  from = (le_minus (whole (neg_ℤ (pos (suc h)))) t (whole c)).1
      (subst (λ x. x ≤ℚ t) (whole-plus (neg_ℤ (pos (suc h))) c) (≤ℚ_trans ((whole-le (neg_ℤ (pos (suc h)) +ℤ c) (c -ℤ pos h)).0 (omega (arith, ints))) low));
  to = (minus_le t (whole (pos (suc h))) (whole c)).1
      (subst (λ x. t ≤ℚ x) (whole-plus (pos (suc h)) c) (≤ℚ_trans high ((whole-le ((c +ℤ pos 1) +ℤ pos h) (pos (suc h) +ℤ c)).0 (omega (arith, ints)))));
}

-- a share of a cycle keeps a time as near as it is
pub squeezed_near : (c : ℤ) (o w W h : ℕ) (t : Rational) → 0 < w → o + w ≤ W → whole (c -ℤ pos h) ≤ℚ t → t ≤ℚ whole ((c +ℤ pos 1) +ℤ pos h)
    → (whole (c -ℤ pos h) ≤ℚ squeezed c o w W t) × (squeezed c o w W t ≤ℚ whole ((c +ℤ pos 1) +ℤ pos h))
squeezed_near c o w W h t positive le low high =
    let total : 0 < W = omega arith in
    let keeps = keeps_≤ℚ (squeezed c o w W) (keeps-squeezed c o w W positive total) in (
      ≤ℚ_trans (squeezed_start c o w W h total (omega arith)) (keeps (whole (c -ℤ pos h)) t low),
      ≤ℚ_trans (keeps t (whole ((c +ℤ pos 1) +ℤ pos h)) high) (squeezed_stop c o w W h total le),
    )

-- ---- each of them is in range
pub step_fits : (g h : ℕ) (c : ℤ) (o w W : ℕ) (t : Rational) → 0 < g → 0 < w → o + w ≤ W → W * g ≤ 2 ^ 44 → suc h ≤ 2 ^ 36
    → IsMultiple g t → whole (c -ℤ pos h) ≤ℚ t → t ≤ℚ whole ((c +ℤ pos 1) +ℤ pos h) → StepFits c o w W t
step_fits g h c o w W t g_positive positive le fine far on low high =
    let total : 0 < W = omega arith in
    let own_fine : g ≤ 2 ^ 44 = omega (arith, mul-le-mul_right g total) in
    let total_fine : W ≤ 2 ^ 44 = omega (arith, mul-le-mul_left W g_positive) in
    let near = squeezed_near c o w W h t positive le low high in
    let there_on : IsMultiple (W * g) (squeezed c o w W t -ℚ whole c) = multiple_minus (squeezed_multiple g c o w W t on) (whole_multiple (W * g) c) in
    record {
      before = omega arith;
      weight = omega arith;
      since = in_range g (suc h) (t -ℚ whole c) g_positive (multiple_minus on (whole_multiple g c)) own_fine (since_within c h t low high) far;
      sum = subst InRange (since_squeezed c o w W t)
          (in_range (W * g) (suc h) (squeezed c o w W t -ℚ whole c) (mul-pos total g_positive) there_on fine
          (since_within c h (squeezed c o w W t) near.0 near.1) far);
    }
