-- The times of counts.
--     IsTimeOf     a time is that of a count in a unit that is not too fine
--     HasTimes     the times of all four ends of an item are in range
use Rattle.std.specs.Prelude.{◌≡◌, ℕ, ◌<◌, ◌≤◌, ◌^◌, ℤ}
use Rattle.tdl_fraction.specs.Rational.{Rational, frac}
use Rattle.tdl_fraction.specs.Range.{InRange}
use Rattle.tdl_meaning.specs.Ranges.{HasEnds}
use Rattle.tdl_grid.specs.Item.{Item, event_of}

pub record IsTimeOf (u : ℕ) (n : ℤ) (t : Rational) : Type 0 where
  pub positive : 0 < u
  pub small : u ≤ 2 ^ 88
  pub same : t ≡ frac n u

abbrev pub HasTimes : ℕ → Item → Type 0
HasTimes u i = HasEnds InRange (event_of u i)
