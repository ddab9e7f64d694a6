-- What a span of time has of a cycle, and of events.
--     part_arc      the arc from the later of the span's start and the cycle's up to the earlier of their ends
--     HasLength     an event that has its onset has a length that a time of the program can be
--     IsBetween     no time of the arc is a multiple of one over the grid
use Rattle.std.specs.Prelude.{◌≡◌, ℕ, ◌+◌, ◌*◌, true, max, min}
use Rattle.tdl_fraction.specs.Rational.{Rational, ◌-ℚ◌, ◌≤ℚ◌, ◌<ℚ◌, IsMultiple}
use Rattle.tdl_fraction.specs.Arc.{Arc}
use Rattle.tdl_fraction.specs.Range.{InRange}
use Rattle.tdl_fraction.specs.Units.{tick_units, time_of}
use Rattle.tdl_event.specs.Event.{Event}
use Rattle.tdl_meaning.specs.Onsets.{has_onset}

abbrev pub part_arc : ℕ → ℕ → ℕ → Arc
part_arc from to cycle = record { start = time_of (max from (cycle * tick_units)); stop = time_of (min to ((cycle + 1) * tick_units)) }

pub record HasLength (e : Event) : Type 0 where
  pub in_range : has_onset e ≡ true → InRange (e.whole.stop -ℚ e.whole.start)

-- its end is no time of an arc
pub record IsBetween (g : ℕ) (a : Arc) : Type 0 where
  pub none : (t : Rational) → IsMultiple g t → a.start ≤ℚ t → t <ℚ a.stop → ⊥
