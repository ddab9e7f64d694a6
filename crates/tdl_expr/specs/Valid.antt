-- Trees that can be played.
--     IsValid            rates, rounds, times and weights are above 0, and a sequence has a step
--     IsWithinLimits     the load, the finest step and the greatest size are within the limits
use Rattle.std.specs.Prelude.{ℕ, ◌^◌, ◌<◌, ◌≤◌, pos}
use Rattle.tdl_fraction.specs.Rational.{whole, ◌<ℚ◌}
use Rattle.tdl_fraction.specs.Units.{tick_units, last_cycle}
use Rattle.tdl_expr.specs.Tree.{Tree, Silence, Pure, Fast, TimeCat, Cat, Stack, Rev, Pick, When, Shift, Join, Ply, Gate, Trees, empty, child, Steps, none}
use Rattle.tdl_expr.specs.Tree.{step}
use Rattle.tdl_expr.specs.Bounds.{bounds, fine, reach, sum_of_weights}

abbrev mutual
  pub IsValid : Tree → Type 0
  IsValid Silence = Unit {0}
  IsValid (Pure v) = Unit {0}
  IsValid (Fast r e) = (whole (pos 0) <ℚ r) × IsValid e
  IsValid (TimeCat steps) = (0 < sum_of_weights steps) × AreValidSteps steps
  IsValid (Cat trees) = AreValid trees
  IsValid (Stack trees) = AreValid trees
  IsValid (Rev e) = IsValid e
  IsValid (Pick selector trees) = IsValid selector × AreValid trees
  IsValid (When modulus test d e) = (0 < modulus) × IsValid d × IsValid e
  IsValid (Shift t e) = IsValid e
  IsValid (Join side op d e) = IsValid d × IsValid e
  IsValid (Ply n e) = (0 < n) × IsValid e
  IsValid (Gate from to inside e) = IsValid e

  pub AreValid : Trees → Type 0
  AreValid empty = Unit {0}
  AreValid (child e trees) = IsValid e × AreValid trees

  pub AreValidSteps : Steps → Type 0
  AreValidSteps none = Unit {0}
  AreValidSteps (step w e steps) = (0 < w) × IsValid e × AreValidSteps steps

-- the most visits for a cycle
abbrev pub max_load : ℕ
max_load = 131072

-- the greatest denominator and the greatest size of a fraction of the program
abbrev pub max_fine : ℕ
max_fine = 2 ^ 44

abbrev pub max_reach : ℕ
max_reach = 2 ^ 36

-- asked for arcs on the grid of ticks that end with the last cycle
pub record IsWithinLimits (e : Tree) : Type 0 where
  pub not_too_dense : (bounds e).load ≤ max_load
  pub not_too_fine : fine e tick_units ≤ max_fine
  pub not_too_far : reach e last_cycle ≤ max_reach
