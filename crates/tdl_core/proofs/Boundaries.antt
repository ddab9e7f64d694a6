-- Boundaries: the least multiple of so many cycles that is not below a place.
use Rattle.std.proofs.Common.{◌≡◌, ℕ, ◌+◌, ◌*◌, ◌/◌, ◌<◌, ◌≤◌, arith}
use Rattle.std.specs.Int.{◌∣◌, div_ceil}
use Rattle.std.proofs.lemmas.Grind.{div_ceil_times}
use Rattle.std.proofs.lemmas.Nat.Gcd.{mod-eq-zero_of_dvd}
use Rattle.std.proofs.Math.Nat.{mul-le-mul_left}
use Rattle.tdl_fraction.specs.Units.{tick_units}
use Rattle.tdl_score.specs.History.{boundary_of}

-- the quotient rounded up is the least whose multiple is not below
pub div_ceil_least : (a b k : ℕ) → 0 < b → a ≤ k * b → div_ceil a b ≤ k
div_ceil_least a b k p h =
    let above = (div_ceil_times a b p).1 in
    below (div_ceil a b) k b p (omega arith)
  where
    below : (d k b : ℕ) → 0 < b → d * b < (k + 1) * b → d ≤ k
    below d k b p h = grind arith

quotient_of : (every cycle : ℕ) → 0 < every → every ∣ cycle → cycle ≡ every * (cycle / every)
quotient_of every cycle p d = let none = mod-eq-zero_of_dvd every d in omega arith

regroup : (e k u : ℕ) → (e * k) * u ≡ k * (e * u)
regroup e k u = grind arith

pub boundary_least : (place every cycle : ℕ) → 0 < every → every ∣ cycle → place ≤ cycle * tick_units → boundary_of place every ≤ cycle
boundary_least place every cycle p d h =
    let k = cycle / every in
    let same = quotient_of every cycle p d in
    let within : place ≤ k * (every * tick_units) = rw (← regroup every k tick_units, ← same) h in
    let least = div_ceil_least place (every * tick_units) k (omega arith) within in
    rw same (mul-le-mul_left every least)
