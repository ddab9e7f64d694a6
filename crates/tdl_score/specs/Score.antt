-- What changes play.
--     row_of          the row of an event that has its onset, on an orbit
--     orbit_rows      the rows of an orbit in a cycle: those of its pattern, where it is heard
--     rows            the rows of a cycle, in order of onset; equal onsets by orbit, and then as the pattern answers
--     score           the rows of all cycles whose onset is below so many tick units
--     IsRowOf         what is known of each row of a cycle
use Rattle.std.specs.Prelude.{ℕ, ◌+◌, Bool, pos, List, [], ◌∷◌, Option, Some, None, filter, if◌then◌else◌}
use Rattle.std.specs.List.{flat_map, range_with_len}
use Rattle.std.specs.Int.{div_ceil}
use Rattle.tdl_control.specs.declared.leaves.Leaf.{Leaf}
use Rattle.tdl_control.specs.declared.leaves.Leaf.TheVariants.{Controls, Truth, Index}
use Rattle.tdl_fraction.specs.Rational.{Rational, whole, ◌+ℚ◌, ◌-ℚ◌, ◌≤ℚ◌, ◌<ℚ◌}
use Rattle.tdl_fraction.specs.Range.{InRange}
use Rattle.tdl_fraction.specs.Units.{tick_units, time_of}
use Rattle.tdl_event.specs.Event.{Event}
use Rattle.tdl_event.specs.declared.rows.Row.{Row}
use Rattle.tdl_order.specs.TimeOrder.{by_time, is_before}
use Rattle.tdl_desk.specs.declared.changes.Dated.{Dated}
use Rattle.tdl_desk.specs.Desk.{Desk, IsOrbit, desk, is_audible, orbits}
use Rattle.tdl_expr.specs.Tree.{Tree}
use Rattle.tdl_meaning.specs.Meaning.{cyc}
use Rattle.tdl_meaning.specs.Onsets.{has_onset}

abbrev pub leaf_rows : ℕ → Event → Leaf → List Row
leaf_rows orbit e (Controls controls) = record { onset = e.whole.start; length = e.whole.stop -ℚ e.whole.start; orbit = orbit; controls = controls } ∷ []
leaf_rows orbit e (Truth truth) = []
leaf_rows orbit e (Index index) = []

abbrev pub row_of : ℕ → Event → List Row
row_of orbit e = if has_onset e then leaf_rows orbit e e.value else []

abbrev pub pattern_rows : ℕ → ℕ → Option Tree → List Row
pattern_rows cycle orbit None = []
pattern_rows cycle orbit (Some tree) = flat_map (row_of orbit) (cyc tree (pos cycle))

abbrev pub orbit_rows : ℕ → Desk Tree → ℕ → List Row
orbit_rows cycle state orbit = if is_audible state orbit then pattern_rows cycle orbit (state.pattern orbit) else []

abbrev pub onset : Row → Rational
onset row = row.onset

unfoldable pub rows : List (Dated Tree) → ℕ → List Row
rows changes cycle = by_time onset (flat_map (orbit_rows cycle (desk changes cycle)) orbits)

-- the row begins before so many tick units
abbrev pub begins_before : ℕ → Row → Bool
begins_before units row = is_before onset (time_of units) row

-- the cycles that begin before so many tick units
abbrev pub cycles_before : ℕ → List ℕ
cycles_before units = range_with_len 0 (div_ceil units tick_units)

unfoldable pub score : List (Dated Tree) → ℕ → List Row
score changes units = filter (begins_before units) (flat_map (rows changes) (cycles_before units))

-- a row of a cycle begins in it, has a length and an end that a time of the program can be, and plays on an orbit
pub record IsRowOf (cycle : ℕ) (row : Row) : Type 0 where
  pub from : whole (pos cycle) ≤ℚ row.onset
  pub until : row.onset <ℚ whole (pos (cycle + 1))
  pub positive : whole (pos 0) <ℚ row.length
  pub in_range : InRange row.length
  pub end_in_range : InRange (row.onset +ℚ row.length)
  pub orbit : IsOrbit row.orbit
