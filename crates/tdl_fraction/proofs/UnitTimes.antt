-- Times on the grid of tick units beside other times.
use Rattle.std.proofs.Common.{◌≡◌, ℕ, ◌*◌, ◌<◌, ◌≤◌, ◌↔◌, ℤ, pos, ◌-ℤ◌, ◌*ℤ◌, ◌∙◌, ap, arith}
use Rattle.std.proofs.lemmas.Int.{ints}
use Rattle.tdl_fraction.specs.Rational.{frac, whole, ◌≤ℚ◌, ◌<ℚ◌, ◌-ℚ◌}
use Rattle.tdl_fraction.specs.Range.{InRange}
use Rattle.tdl_fraction.proofs.Over.{Over-frac, Over-minus_same, le_over, lt_over, frac_same, frac_over}
use Rattle.tdl_fraction.proofs.Field.{frac-one}
use Rattle.tdl_fraction.proofs.Order.{frac-le, frac-lt}
use Rattle.tdl_fraction.proofs.Ranges.{InRange-frac}
use Rattle.tdl_fraction.specs.Units.{tick_units, most_units, time_of}

-- so many units are not above a time n / d
pub units_le : (units n d : ℕ) → 0 < d → (units * d ≤ n * tick_units) ↔ (time_of units ≤ℚ frac (pos n) d)
units_le units n d p =
    let orders = le_over (Over-frac (pos units) tick_units (omega arith)) (Over-frac (pos n) d p) in
    (λ h. orders.0 (omega (arith, ints)), λ o. let back = orders.1 o in omega (arith, ints))

-- a time n / d is below so many units
pub lt_units : (units n d : ℕ) → 0 < d → (n * tick_units < units * d) ↔ (frac (pos n) d <ℚ time_of units)
lt_units units n d p =
    let orders = lt_over (Over-frac (pos n) d p) (Over-frac (pos units) tick_units (omega arith)) in
    (λ h. orders.0 (omega (arith, ints)), λ o. let back = orders.1 o in omega (arith, ints))

pub units-le : (m n : ℕ) → m ≤ n → time_of m ≤ℚ time_of n
units-le m n h = (frac-le (pos m) (pos n) tick_units (omega arith)).0 (omega (arith, ints))

pub units-lt : (m n : ℕ) → m < n → time_of m <ℚ time_of n
units-lt m n h = (frac-lt (pos m) (pos n) tick_units (omega arith)).0 (omega (arith, ints))

-- a time n / d that is so many units
pub same_units : (units n d : ℕ) → 0 < d → n * tick_units ≡ units * d → frac (pos n) d ≡ time_of units
same_units units n d p h = frac_same (pos n) d (pos units) tick_units p (omega arith) (ap pos h)

pub units_in_range : (units : ℕ) → units ≤ most_units → InRange (time_of units)
units_in_range units h = InRange-frac (pos units) tick_units (omega arith) (omega arith) (omega arith)

-- a whole cycle, in units
pub cycle_units : (cycle : ℕ) → time_of (cycle * tick_units) ≡ whole (pos cycle)
cycle_units cycle =
    let crossed : pos (cycle * tick_units) *ℤ pos 1 ≡ pos cycle *ℤ pos tick_units = ap pos (once (cycle * tick_units)) in
    frac_same (pos (cycle * tick_units)) tick_units (pos cycle) 1 (omega arith) (omega arith) crossed ∙ frac-one (pos cycle)
  where
    once : (n : ℕ) → n * 1 ≡ n
    once n = omega arith

-- the difference of two times on one denominator
pub frac-minus : (n m : ℤ) (d : ℕ) → 0 < d → frac n d -ℚ frac m d ≡ frac (n -ℤ m) d
frac-minus n m d p = frac_over (Over-minus_same (Over-frac n d p) (Over-frac m d p))
