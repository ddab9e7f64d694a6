-- The steps of Euclid's algorithm, and what they do to a fraction.
use Rattle.std.specs.Prelude.{◌≡◌, ℕ, zero, suc, ◌/◌, ◌%◌, ◌<◌, ◌≤◌, ℤ, nat_abs}
use Rattle.std.proofs.Common.{refl, arith}
use Rattle.std.proofs.lemmas.Nat.Gcd.{IsGcd-from_zero, IsGcd-from_mod, same_from_IsGcd, le_of_dvd}
use Rattle.std.proofs.Math.Nat.{pos_of_dvd_of_pos, eq-one_of_dvd-one}
use Rattle.tdl_fraction.specs.Divisor.{gcd, div_z}
use Rattle.tdl_fraction.specs.LowestTerms.{IsGcd-gcd}
use Rattle.tdl_fraction.specs.Rational.{frac}

-- a remainder in place of the greater number
pub gcd-mod : (a b : ℕ) → gcd b (a % b) ≡ gcd a b
gcd-mod a b = same_from_IsGcd a b _ _ (IsGcd-from_mod a b _ (IsGcd-gcd b (a % b))) (IsGcd-gcd a b)

-- nothing is left to divide by
pub gcd-zero : (a b : ℕ) → b ≡ 0 → gcd a b ≡ a
gcd-zero a b e = same_from_IsGcd a b _ _ (IsGcd-gcd a b) (IsGcd-from_zero a b e)

-- a divisor of a positive number is positive
pub gcd_positive : (a b : ℕ) → 0 < b → 0 < gcd a b
gcd_positive a b p = pos_of_dvd_of_pos (IsGcd-gcd a b).1 p

-- and no greater than it
pub gcd_le : (a b : ℕ) → 0 < b → gcd a b ≤ b
gcd_le a b p = le_of_dvd p (IsGcd-gcd a b).1

-- the parts of a fraction are quotients by the greatest common divisor
pub num-frac : (n : ℤ) (d : ℕ) → 0 < d → (frac n d).num ≡ div_z n (gcd (nat_abs n) d)
unfolding frac
num-frac n zero p = absurd (omega arith)
num-frac n (suc k) p = refl

-- the number below the line
pub den-frac : (n : ℤ) (d : ℕ) → 0 < d → (frac n d).den ≡ d / gcd (nat_abs n) d
unfolding frac
den-frac n zero p = absurd (omega arith)
den-frac n (suc k) p = refl

-- no other number divides 1
pub gcd-one : (a : ℕ) → gcd a 1 ≡ 1
gcd-one a = eq-one_of_dvd-one (IsGcd-gcd a 1).1
