-- Rates of units.
--     IsRateOf    a rate above 0 whose numerator divides a unit, for which there is room
use Rattle.std.specs.Prelude.{ℕ, ◌≤◌, ◌*◌, ◌/◌, ◌^◌, nat_abs}
use Rattle.std.specs.Int.{◌∣◌}
use Rattle.std.specs.Prelude.{pos}
use Rattle.tdl_fraction.specs.Rational.{Rational, whole, ◌<ℚ◌}

pub record IsRateOf (r : Rational) (u : ℕ) : Type 0 where
  pub above : whole (pos 0) <ℚ r
  pub divides : nat_abs r.num ∣ u
  pub small : u / nat_abs r.num * r.den ≤ 2 ^ 88
