-- How the times of a cycle are turned round in it.
--     CanTurn    the time that a time is turned to is in range
use Rattle.std.specs.Prelude.{ℤ}
use Rattle.tdl_fraction.specs.Rational.{Rational}
use Rattle.tdl_fraction.specs.Range.{InRange}
use Rattle.tdl_meaning.specs.Pattern.{turned_time}

abbrev pub CanTurn : ℤ → Rational → Type 0
CanTurn cycle t = InRange (turned_time cycle t)
