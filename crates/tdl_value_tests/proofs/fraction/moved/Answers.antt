use Rattle.std.proofs.Common.{ℕ, zero, suc, ◌+◌, ◌*◌, ◌^◌, ◌<◌, ◌≤◌, ℤ, pos, to_z, of_z, w64, FitsSigned, arith, sym, subst}
use Rattle.std.proofs.Math.Nat.{mul-le-mul}
use Rattle.std.proofs.lemmas.Int.{to_z-of_z}
use Rattle.tdl_fraction.specs.Rational.{whole, ◌+ℚ◌, ◌-ℚ◌, ◌*ℚ◌, ◌/ℚ◌}
use Rattle.tdl_fraction.specs.Range.{InRange}
use Rattle.tdl_fraction.proofs.Over.{den_positive}
use Rattle.tdl_fraction.proofs.Ranges.{InRange-plus_whole, InRange-whole_minus, InRange-times_plus_over}
use Rattle.tdl_value_tests.proofs.fraction.moved.Goals as goal

as_passed : (P : ℤ → Type 0) (n : ℤ) → FitsSigned w64 n → P n → P (to_z w64 (of_z w64 n))
as_passed P n f h = subst P (sym (to_z-of_z w64 n f)) h

near : (n d c : ℕ) → 0 < d → n ≤ 1000 → c ≤ 1000 → n + c * d ≤ 2 ^ 36 * d
near n zero c p h k = absurd (omega arith)
near n (suc d) c p h k = omega (arith, mul-le-mul k (same (suc d)))
  where
    same : (d : ℕ) → d ≤ d
    same d = omega arith

scaled_near : (n d t c o : ℕ) → 0 < d → 0 < o → n ≤ 1000 → d ≤ 1000 → t ≤ 1000 → c ≤ 1000 → n * t + c * d ≤ 2 ^ 36 * (d * o)
scaled_near n zero t c o p q h k l m = absurd (omega arith)
scaled_near n d t c zero p q h k l m = absurd (omega arith)
scaled_near n (suc d) t c (suc o) p q h k l m =
    let product : n * t ≤ 1000 * 1000 = mul-le-mul h l in
    let shift : c * suc d ≤ 1000 * 1000 = mul-le-mul m k in
    omega arith

pub add_whole-more-requires : goal.add_whole-more-requires
add_whole-more-requires c =
    let x = c.args.x in
    as_passed (λ n. InRange (x +ℚ whole n)) c.args.plus c.ranges.plus
    (InRange-plus_whole x c.args.plus (omega (arith, c.requires.x_den)) (near _ _ _ (den_positive x) c.requires.x_num c.requires.plus))

pub taken_from-rest-requires : goal.taken_from-rest-requires
taken_from-rest-requires c =
    let x = c.args.x in
    as_passed (λ n. InRange (whole n -ℚ x)) c.args.plus c.ranges.plus
    (InRange-whole_minus x c.args.plus (omega (arith, c.requires.x_den)) (near _ _ _ (den_positive x) c.requires.x_num c.requires.plus))

pub times_plus_over-all-requires-clause-in_range : goal.times_plus_over-all-requires-clause-in_range
times_plus_over-all-requires-clause-in_range c =
    let x = c.args.x in
    let small : x.den * c.args.over ≤ 1000 * 1000 = mul-le-mul c.requires.x_den c.requires.over in
    as_passed (λ n. InRange ((x *ℚ whole (pos c.args.times) +ℚ whole n) /ℚ whole (pos c.args.over))) c.args.plus c.ranges.plus
    (InRange-times_plus_over x c.args.times c.args.plus c.args.over c.requires.positive (omega (arith, small))
    (scaled_near _ _ _ _ _ (den_positive x) c.requires.positive c.requires.x_num c.requires.x_den c.requires.times c.requires.plus))
