-- That the pieces of an arc can be worked out.
--     CanPly     the ends are on a grid of which so many pieces are fine enough
use Rattle.std.specs.Prelude.{ℕ, ◌*◌, ◌^◌, ◌<◌, ◌≤◌}
use Rattle.tdl_fraction.specs.Rational.{IsMultiple}
use Rattle.tdl_fraction.specs.Arc.{Arc, IsArc}
use Rattle.tdl_event.specs.Event.{Event}

pub record CanPly (n : ℕ) (a : Arc) : Type 0 where
  pub is_arc : IsArc a
  pub grid : ℕ
  pub positive : 0 < grid
  pub start : IsMultiple grid a.start
  pub stop : IsMultiple grid a.stop
  pub fine : n * grid ≤ 2 ^ 44

-- so of an event's whole
abbrev pub CanPlyWhole : ℕ → Event → Type 0
CanPlyWhole n e = CanPly n e.whole
