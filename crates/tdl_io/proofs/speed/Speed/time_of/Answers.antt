use Rattle.std.proofs.Common.{◌≡◌, ℕ, ◌<◌, ◌≤◌, ◌^◌, ℤ, pos, nat_abs, to_z, of_z, ap, ◌∙◌, arith, mul-pos}
use mir.Syntax.{w128}
use Rattle.tdl_fraction.specs.Range.{InRange}
use Rattle.tdl_fraction.specs.Rational.{Rational, whole, ◌<ℚ◌}
use Rattle.tdl_fraction.proofs.Rates.{rate_positive}
use Rattle.tdl_fraction.proofs.Words128.{near_is}
use Rattle.tdl_io.proofs.speed.Speed.time_of.Goals as goal

near : (x : Rational) → InRange x → nat_abs x.num ≤ 2 ^ 124
near x range = omega arith

-- the size of a numerator above 0, as the program takes it
size_positive : (x : Rational) (n : ℤ) (s : ℕ) → whole (pos 0) <ℚ x → InRange x → n ≡ x.num → s ≡ nat_abs (to_z w128 (of_z w128 n)) → 0 < s
size_positive x n s above range is size =
    let within : nat_abs n ≤ 2 ^ 124 = rw is (near x range) in
    let same : s ≡ nat_abs x.num = size ∙ ap nat_abs (near_is n within ∙ is) in
    rw same (rate_positive x above)

pub nonzero_div-nanos : goal.nonzero_div-nanos
nonzero_div-nanos c =
    mul-pos (omega (arith, c.from-3.ensures))
    (size_positive _ _ _ c.self.invariant c.numerator.ensures.in_range c.numerator.ensures.value c.unsigned_abs.ensures.value)
