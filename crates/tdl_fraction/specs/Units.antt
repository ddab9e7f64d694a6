-- Times on the grid of tick units.
--     tick_units      a cycle has so many tick units
--     last_cycle      ticks and queries stop at this cycle
--     last_units      the last cycle, in tick units
--     most_units      the greatest number of the program, in tick units
--     time_of         so many tick units, as a time in cycles
--     IsOnGrid        an arc whose ends are whole counts of tick units
--     IsQueryArc      an arc from 0 to the last cycle, on the grid
use Rattle.std.specs.Prelude.{ℕ, ◌^◌, ◌*◌, pos}
use Rattle.tdl_fraction.specs.Rational.{Rational, frac, ◌≤ℚ◌, whole}
use Rattle.tdl_fraction.specs.Arc.{Arc, IsArc, IsOnGridOf}

abbrev pub tick_units : ℕ
tick_units = 46080

abbrev pub last_cycle : ℕ
last_cycle = 2 ^ 20

abbrev pub last_units : ℕ
last_units = last_cycle * tick_units

abbrev pub most_units : ℕ
most_units = 2 ^ 36 * tick_units

abbrev pub time_of : ℕ → Rational
time_of units = frac (pos units) tick_units

abbrev pub IsOnGrid : Arc → Type 0
IsOnGrid arc = IsOnGridOf tick_units arc

-- an arc from 0 on, up to the last cycle, whose ends are whole counts of tick units
pub record IsQueryArc (arc : Arc) : Type 0 where
  pub ordered : IsArc arc
  pub from_zero : whole (pos 0) ≤ℚ arc.start
  pub to_last : arc.stop ≤ℚ whole (pos last_cycle)
  pub on_grid : IsOnGrid arc
