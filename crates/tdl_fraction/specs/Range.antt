-- The rationals that a fraction of the program can be.
--     InRange      the denominator is at most 2^44, and the size at most 2^36
--     IsWithin     the size is at most a whole number
--     IsFraction   two parts in lowest terms and in range
--     IsTimeArc    two times of the program, the first before the second
use Rattle.std.specs.Prelude.{ℕ, ◌*◌, ◌^◌, ◌≤◌, T, ℤ, pos, neg_ℤ, nat_abs}
use Rattle.tdl_fraction.specs.Divisor.{is_lowest}
use Rattle.tdl_fraction.specs.Rational.{Rational, whole, ◌≤ℚ◌, ◌<ℚ◌}

pub record InRange (x : Rational) : Type 0 where
  pub fine : x.den ≤ 2 ^ 44
  pub near : nat_abs x.num ≤ 2 ^ 36 * x.den

-- from -m to m
pub record IsWithin (m : ℕ) (t : Rational) : Type 0 where
  pub from : whole (neg_ℤ (pos m)) ≤ℚ t
  pub to : t ≤ℚ whole (pos m)

pub record IsFraction (num : ℤ) (den : ℕ) : Type 0 where
  pub lowest : T (is_lowest num den)
  pub fine : den ≤ 2 ^ 44
  pub near : nat_abs num ≤ 2 ^ 36 * den

-- two times of the program, the first before the second
pub record IsTimeArc (start stop : Rational) : Type 0 where
  pub ordered : start <ℚ stop
  pub start_in_range : InRange start
  pub stop_in_range : InRange stop
