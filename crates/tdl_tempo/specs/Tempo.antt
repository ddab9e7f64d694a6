-- Wire times of a tempo.
--     Pace       cycles a second, and the second since 1900-01-01 at which cycle 0 begins
--     timetag    the time tag of a time in cycles: 2^32 parts to the second, rounded down, modulo 2^64
--     micros     a length in cycles as microseconds, rounded down, or 2^31 - 1 where it is more
use Rattle.std.specs.Prelude.{ℕ, ◌*◌, ◌^◌, ◌≤◌, ℤ, pos, ◌+ℤ◌, nat_abs, cond}
use Rattle.std.specs.Int.{int_rem_euclid}
use lib.Signed.{le_z}
use Rattle.tdl_fraction.specs.Rational.{Rational, whole, ◌*ℚ◌, ◌/ℚ◌, ◌<ℚ◌, floor}

pub record Pace : Type 0 where
  pub cps : Rational
  pub origin : ℕ

abbrev pub max_part : ℕ
max_part = 65535

-- above 0, with both parts at most 65,535
pub record IsCps (cps : Rational) : Type 0 where
  pub positive : whole (pos 0) <ℚ cps
  pub above_line : nat_abs cps.num ≤ max_part
  pub below_line : cps.den ≤ max_part

abbrev pub second_parts : ℕ
second_parts = 2 ^ 32

abbrev pub second_micros : ℕ
second_micros = 1000000

-- a time in cycles as parts of a second, so many to the second, rounded down
abbrev pub scaled : Pace → ℕ → Rational → ℤ
scaled tempo scale t = floor (t *ℚ whole (pos scale) /ℚ tempo.cps)

abbrev pub timetag : Pace → Rational → ℤ
timetag tempo t = int_rem_euclid (pos (tempo.origin * second_parts) +ℤ scaled tempo second_parts t) (pos (2 ^ 64))

abbrev pub longest : ℤ
longest = pos 2147483647

abbrev pub micros : Pace → Rational → ℤ
micros tempo d = let m = scaled tempo second_micros d in cond (le_z longest m) longest m
