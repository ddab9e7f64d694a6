-- Rates over so many ten-thousandths, and sequences at a pace.
use Rattle.std.proofs.Common.{◌≡◌, ℕ, ◌*◌, ◌^◌, ◌<◌, ◌≤◌, IsTrue, ℤ, ◌*ℤ◌, pos, nat_abs, to_z, of_z, ap, ap₂, ◌∙◌, arith}
use Rattle.std.specs.Int.{w128}
use Rattle.std.proofs.lemmas.Int.{ints, unsigned_abs-mul, to_z-of_z, fits_signed_from_abs, fits_signed_mul}
use Rattle.std.proofs.lemmas.Bool.Decides.{nat_tests}
use Rattle.std.proofs.Math.Nat.{mul-le-mul_left, mul-le-mul_right}
use Rattle.tdl_fraction.specs.Rational.{Rational, frac}
use Rattle.tdl_fraction.specs.Range.{InRange}
use Rattle.tdl_fraction.proofs.Over.{den_positive}
use Rattle.tdl_fraction.proofs.Ranges.{InRange-frac}
use Rattle.tdl_rows.specs.Joined.{Weighted, fast_of}
use Rattle.tdl_mini_rows.specs.Lowered.{paced, over_parts}
use Rattle.tdl_mini_rows.specs.inside.Bounds.{is_rate}
use Rattle.tdl_mini_rows.proofs.Bounded.{IsRate-from}

pub paced-some : (rate pace : Rational) (s : Weighted) → (s.parts ≡ 0 → ⊥) → pace ≡ over_parts rate s.parts → fast_of pace s.tree ≡ paced rate s
paced-some rate pace s e f = grind (arith, nat_tests)

-- a numerator in ten-thousandths, as the program sees it
pub scaled_is : (rate : Rational) (a b : ℤ) → IsTrue (is_rate rate) → a ≡ rate.num → b ≡ pos 10000
    → to_z w128 (of_z w128 (to_z w128 (of_z w128 a) *ℤ to_z w128 (of_z w128 b))) ≡ rate.num *ℤ pos 10000
scaled_is rate a b rated e f =
    let sized = IsRate-from rate rated in
    let first : to_z w128 (of_z w128 a) ≡ rate.num = ap (λ (n : ℤ). to_z w128 (of_z w128 n)) e
    ∙ to_z-of_z w128 rate.num (fits_signed_from_abs w128 rate.num (omega arith)) in
    let second : to_z w128 (of_z w128 b) ≡ pos 10000 = omega (arith, ints) in
    ap₂ (λ (x y : ℤ). to_z w128 (of_z w128 (x *ℤ y))) first second
    ∙ to_z-of_z w128 (rate.num *ℤ pos 10000) (fits_signed_mul w128 rate.num (pos 10000) (2 ^ 30) 10000 sized.small (omega arith) (omega arith))

-- a rate over so many parts is in range
pub over_parts_fits : (rate : Rational) (num : ℤ) (den parts : ℕ) → IsTrue (is_rate rate) → num ≡ rate.num *ℤ pos 10000 → den ≡ rate.den * parts → 0 < parts
    → parts ≤ 2 ^ 28 → InRange (frac num den)
over_parts_fits rate num den parts rated n d p short =
    let sized = IsRate-from rate rated in
    let above : nat_abs num ≡ nat_abs rate.num * 10000 = ap nat_abs n ∙ unsigned_abs-mul rate.num (pos 10000) in
    let under : rate.den * parts ≤ 65535 * parts = mul-le-mul_right parts sized.fine in
    let over : rate.den * 1 ≤ rate.den * parts = mul-le-mul_left rate.den p in
    InRange-frac num den (omega (arith, den_positive rate)) (omega arith) (omega arith)
