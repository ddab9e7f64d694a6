-- Ticks that rise.
--     RiseByCycles    each tick is above the one before it, the first above a place, by at most a cycle
--     reached         the last tick, or the place where there is none
use Rattle.std.specs.Prelude.{ℕ, ◌+◌, ◌<◌, ◌≤◌, List, [], ◌∷◌}
use Rattle.tdl_fraction.specs.Units.{tick_units}

abbrev pub RiseByCycles : ℕ → List ℕ → Type 0
RiseByCycles place [] = Unit {0}
RiseByCycles place (tick ∷ ticks) = (place < tick) × (tick ≤ place + tick_units) × RiseByCycles tick ticks

abbrev pub reached : ℕ → List ℕ → ℕ
reached place [] = place
reached place (tick ∷ ticks) = reached tick ticks
