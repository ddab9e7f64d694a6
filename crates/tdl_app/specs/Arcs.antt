-- The arcs that two words name.
--     NamesArc      the words write the ends of an arc that a query may have
--     RefusesArc    they do not, by the first fault
use Rattle.std.specs.Prelude.{◌≡◌, ℕ, ◌⊎◌, pos, List}
use Rattle.tdl_fraction.specs.Rational.{Rational, whole, ◌≤ℚ◌, ◌<ℚ◌}
use Rattle.tdl_fraction.specs.Range.{InRange}
use Rattle.tdl_fraction.specs.Arc.{Arc}
use Rattle.tdl_fraction.specs.Reading.{Reads as ReadsNumber}
use Rattle.tdl_fraction.specs.Units.{IsQueryArc, IsOnGrid, last_cycle}
use Rattle.tdl_app.specs.declared.arcs.ArcFault.{ArcFault}
use Rattle.tdl_app.specs.declared.arcs.ArcFault.TheVariants.{From, To, Order, Last, TickGrid}

pub record NamesArc (from to : List ℕ) (arc : Arc) : Type 0 where
  pub start : ReadsNumber from arc.start
  pub stop : ReadsNumber to arc.stop
  pub allowed : IsQueryArc arc

-- a word that writes no number in range
abbrev pub WritesNone : List ℕ → Type 0
WritesNone word = (number : Rational) → ReadsNumber word number → InRange number → ⊥

-- the words write these two numbers, which are in range
pub record Writes (from to : List ℕ) (arc : Arc) : Type 0 where
  pub start : ReadsNumber from arc.start
  pub stop : ReadsNumber to arc.stop
  pub start_in_range : InRange arc.start
  pub stop_in_range : InRange arc.stop

-- the arc begins at 0 or later, and before it ends
pub record IsOrdered (arc : Arc) : Type 0 where
  pub from_zero : whole (pos 0) ≤ℚ arc.start
  pub ordered : arc.start <ℚ arc.stop

pub data RefusesArc (from to : List ℕ) (fault : ArcFault) : Type 0 where
  -- the first word writes no number
  no_start : WritesNone from → fault ≡ From → RefusesArc from to fault
  -- it does, and the second word writes none
  no_stop : (start : Rational) → ReadsNumber from start → InRange start → WritesNone to → fault ≡ To → RefusesArc from to fault
  -- the arc begins before 0, or does not begin before it ends
  order : (arc : Arc) → Writes from to arc → (arc.start <ℚ whole (pos 0)) ⊎ (arc.stop ≤ℚ arc.start) → fault ≡ Order → RefusesArc from to fault
  -- it ends after the last cycle
  last : (arc : Arc) → Writes from to arc → IsOrdered arc → whole (pos last_cycle) <ℚ arc.stop → fault ≡ Last → RefusesArc from to fault
  -- an end is no whole count of tick units
  grid : (arc : Arc) → Writes from to arc → IsOrdered arc → arc.stop ≤ℚ whole (pos last_cycle) → ¬ (IsOnGrid arc)
      → fault ≡ TickGrid → RefusesArc from to fault
