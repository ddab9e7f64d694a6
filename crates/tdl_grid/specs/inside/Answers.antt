-- What a program answers in counts.
--     unit_of      the program's unit: ticks, and the wholes of its events, begin and end at multiples of 1 / u
--     IsAnswer     items are its events in an arc, by counts of that unit, which is positive, and their times are in range
use Rattle.std.specs.Prelude.{◌≡◌, ℕ, ◌<◌, List}
use Rattle.tdl_fraction.specs.Arc.{Arc}
use Rattle.tdl_fraction.specs.Divisor.{lcm}
use Rattle.tdl_fraction.specs.Units.{tick_units}
use Rattle.tdl_expr.specs.Bounds.{grid}
use Rattle.tdl_expr.specs.Rows.{tree_at}
use Rattle.tdl_compile.specs.Compiled.{Compiled}
use Rattle.tdl_meaning.specs.Pattern.{over}
use Rattle.tdl_meaning.specs.Meaning.{cyc}
use Rattle.tdl_meaning.specs.Proper.{Each}
use Rattle.tdl_grid.specs.Item.{Item}
use Rattle.tdl_grid.specs.ItemLaws.{events_of}
use Rattle.tdl_grid.specs.Times.{HasTimes}

abbrev pub unit_of : Compiled → ℕ
unit_of p = lcm (grid (tree_at p.nodes p.root)) tick_units

pub record IsAnswer (p : Compiled) (a : Arc) (items : List Item) : Type 0 where
  pub positive : 0 < unit_of p
  pub events : events_of (unit_of p) items ≡ over (cyc (tree_at p.nodes p.root)) a
  pub in_range : Each (HasTimes (unit_of p)) items
