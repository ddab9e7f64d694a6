-- The numbers of a row's arguments, as the program takes them.
use Rattle.std.proofs.Common.{◌≡◌, ℕ, ◌<◌, ◌^◌, ℤ, pos, ◌-ℤ◌, ◌≤ℤ◌, ◌<ℤ◌, to_z, of_z, FitsSigned, arith}
use Rattle.std.proofs.lemmas.Int.{ints}
use Rattle.std.specs.Int.{w32, w64}
use Rattle.tdl_fraction.specs.Rational.{Rational, whole, ◌≤ℚ◌, ◌<ℚ◌, floor}
use Rattle.tdl_fraction.proofs.Rounding.{le_floor, floor_lt}

-- a number from 0 up to 2^20 is not changed by casts
near_fits : (n : ℤ) → pos 0 ≤ℤ n → n <ℤ pos (2 ^ 20) → FitsSigned w32 (to_z w64 (of_z w64 n))
near_fits n low high = omega (arith, ints)

near_is : (n : ℤ) → pos 0 ≤ℤ n → n <ℤ pos (2 ^ 20) → to_z w32 (of_z w32 (to_z w64 (of_z w64 n))) ≡ n
near_is n low high = omega (arith, ints)

-- the cycle of an onset is one
module _ (onset : Rational) (from_zero : whole (pos 0) ≤ℚ onset) (below_end : onset <ℚ whole (pos (2 ^ 20))) (n : ℤ) (same : n ≡ floor onset) where
  pub cycle_fits : FitsSigned w32 (to_z w64 (of_z w64 n))
  cycle_fits = rw same (near_fits (floor onset) ((le_floor (pos 0) onset).0 from_zero) ((floor_lt onset (pos (2 ^ 20))).0 below_end))

  pub cycle_is : to_z w32 (of_z w32 (to_z w64 (of_z w64 n))) ≡ floor onset
  cycle_is = rw same (near_is (floor onset) ((le_floor (pos 0) onset).0 from_zero) ((floor_lt onset (pos (2 ^ 20))).0 below_end))

-- an orbit from 0
pub orbit_is : (orbit : ℕ) → orbit < 256 → to_z w32 (of_z w32 (to_z w32 orbit -ℤ pos 1)) ≡ pos orbit -ℤ pos 1
orbit_is orbit high = omega (arith, ints)
