-- Arcs of time by whole counts of a unit, which is 1 / u of a cycle. The unit stands beside them: the same counts are other
-- times in another unit.
--     Span          the counts from start up to stop, without stop
--     IsCount       a count that the program's numbers have room for, and for its sum with another one
--     IsSpan        two counts, the first before the second
--     IsPartOf      one span lies within another
--     map_span      both ends by a map of counts
--     turn_span     the same, with the ends exchanged
--     later_span    so many counts later, and earlier_span earlier
--     finer_span    the same time in a unit so many times as fine
--     span_between  from start up to stop, if start is before stop
--     met           the counts that two spans share, if there are any
--     cycle_span    a cycle
--     piece_span    the piece after j of them, where each has so many counts
--     HasPieces     so many equal pieces have whole counts
--     same_span     whether two spans are the same, as a test
--     arc_of        the arc that a span is in a unit
use Rattle.std.specs.Prelude.{ℕ, ◌+◌, ◌^◌, ◌≤◌, Bool, true, false, Option, Some, None, ℤ, pos, ◌+ℤ◌, ◌-ℤ◌, ◌*ℤ◌, ◌≤ℤ◌, ◌<ℤ◌, nat_abs}
use Rattle.std.specs.Int.{int_min, int_max, ◌∣◌}
use Rattle.std.specs.Ordering.{on, eq_of_both, int_eq}
use lib.Signed.{lt_z}
use Rattle.tdl_fraction.specs.Rational.{frac}
use Rattle.tdl_fraction.specs.Arc.{Arc}

pub record Span : Type 0 where
  pub start : ℤ
  pub stop : ℤ

abbrev pub IsCount : ℤ → Type 0
IsCount n = nat_abs n ≤ 2 ^ 124

pub record IsSpan (start stop : ℤ) : Type 0 where
  pub ordered : start <ℤ stop
  pub start_small : IsCount start
  pub stop_small : IsCount stop

abbrev pub IsPartOf : Span → Span → Type 0
IsPartOf a b = (b.start ≤ℤ a.start) × (a.stop ≤ℤ b.stop)

abbrev pub map_span : (ℤ → ℤ) → Span → Span
map_span f s = record { start = f s.start; stop = f s.stop }

abbrev pub turn_span : (ℤ → ℤ) → Span → Span
turn_span f s = record { start = f s.stop; stop = f s.start }

abbrev pub later_span : ℤ → Span → Span
later_span by = map_span (λ n. n +ℤ by)

abbrev pub earlier_span : ℤ → Span → Span
earlier_span by = map_span (λ n. n -ℤ by)

abbrev pub finer_span : ℕ → Span → Span
finer_span times = map_span (λ n. n *ℤ pos times)

abbrev pub span_between : ℤ → ℤ → Option Span
span_between start stop = elim (lt_z start stop) [ true ↦ Some (record { start = start; stop = stop }) | false ↦ None ]

unfoldable pub met : Span → Span → Option Span
met a b = span_between (int_max a.start b.start) (int_min a.stop b.stop)

abbrev pub cycle_span : ℕ → ℤ → Span
cycle_span u c = record { start = c *ℤ pos u; stop = (c +ℤ pos 1) *ℤ pos u }

abbrev pub piece_span : ℤ → Span → ℕ → Span
piece_span width s j = record { start = s.start +ℤ width *ℤ pos j; stop = s.start +ℤ width *ℤ pos (j + 1) }

pub record HasPieces (n : ℕ) (s : Span) : Type 0 where
  pub exact : n ∣ nat_abs (s.stop -ℤ s.start)

abbrev pub same_span : Span → Span → Bool
same_span = eq_of_both (on (λ s. s.start) int_eq) (on (λ s. s.stop) int_eq)

abbrev pub arc_of : ℕ → Span → Arc
arc_of u s = record { start = frac s.start u; stop = frac s.stop u }
