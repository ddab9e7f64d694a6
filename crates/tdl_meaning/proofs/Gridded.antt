-- What is shown of patterns besides that their events are well formed: each fact for the events of each cycle.
--     IsGridded    the ends of the whole and of the part are multiples of 1 / g
--     HasGrid      so they are in every cycle
--     HasHang      a whole hangs over its cycle by at most h, at either end
use Rattle.std.specs.Prelude.{ℕ, ℤ, pos, ◌+ℤ◌}
use Rattle.tdl_fraction.specs.Rational.{IsMultiple}
use Rattle.tdl_event.specs.Event.{Event}
use Rattle.tdl_meaning.specs.Pattern.{Pattern}
use Rattle.tdl_meaning.specs.Proper.{Each, IsNear}

pub record IsGridded (g : ℕ) (e : Event) : Type 0 where
  pub whole_start : IsMultiple g e.whole.start
  pub whole_stop : IsMultiple g e.whole.stop
  pub part_start : IsMultiple g e.part.start
  pub part_stop : IsMultiple g e.part.stop

abbrev pub HasGrid : ℕ → Pattern → Type 0
HasGrid g p = (c : ℤ) → Each (IsGridded g) (p c)

abbrev pub HasHang : ℕ → Pattern → Type 0
HasHang h p = (c : ℤ) → Each (IsNear h c (c +ℤ pos 1)) (p c)
