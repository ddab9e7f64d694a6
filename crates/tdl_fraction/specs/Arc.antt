-- Arcs of time.
--     Arc       the times from start up to stop, without stop
--     IsArc     it begins before it ends
--     IsInside  one lies within the other
--     IsIn      a time within an arc
--     IsOnGridOf  both ends are multiples of one over a number
--     map_arc   both ends by a map of times
--     turn_arc  the same, with the ends exchanged
--     meet      the interval that two arcs share, where it has positive width
use Rattle.std.specs.Prelude.{ℕ, true, false, Option, Some, None}
use Rattle.tdl_fraction.specs.Rational.{Rational, IsMultiple, ◌≤ℚ◌, ◌<ℚ◌, lt_ℚ, min_ℚ, max_ℚ}

pub record Arc : Type 0 where
  pub start : Rational
  pub stop : Rational

abbrev pub IsArc : Arc → Type 0
IsArc a = a.start <ℚ a.stop

abbrev pub IsInside : Arc → Arc → Type 0
IsInside a b = (b.start ≤ℚ a.start) × (a.stop ≤ℚ b.stop)

abbrev pub IsIn : Rational → Arc → Type 0
IsIn t a = (a.start ≤ℚ t) × (t <ℚ a.stop)

pub record IsOnGridOf (g : ℕ) (a : Arc) : Type 0 where
  pub start : IsMultiple g a.start
  pub stop : IsMultiple g a.stop

abbrev pub map_arc : (Rational → Rational) → Arc → Arc
map_arc f a = record { start = f a.start; stop = f a.stop }

-- the same with the ends exchanged
abbrev pub turn_arc : (Rational → Rational) → Arc → Arc
turn_arc f a = record { start = f a.stop; stop = f a.start }

-- the arc from start to stop, if start is before stop
unfoldable pub arc_between : Rational → Rational → Option Arc
arc_between start stop = elim (lt_ℚ start stop) [ true ↦ Some (record { start = start; stop = stop }) | false ↦ None ]

unfoldable pub meet : Arc → Arc → Option Arc
meet a b = arc_between (max_ℚ a.start b.start) (min_ℚ a.stop b.stop)
