-- Events whose times are counts of a unit.
--     Item          the whole, the part of it that is meant, and the value
--     HasCounts     all four ends are counts that the program's numbers have room for
--     HasWholePieces  so many equal pieces of the whole have whole counts
--     retimed       an item with other spans
--     moved_item    both spans by a map of counts
--     delayed       so many counts later
--     finer_item    the same times in a unit so many times as fine
--     turned_item   each count taken from the same one, so that the item runs from its end to its start
--     event_of      the event that an item is in a unit
--     passes_in     whether its event passes a gate
--     Adds          behind a list there come items that are these events in a unit
--     AddsInEach    so in each unit, where the unit gives the events
--     PlaysInEach   there is an item that is this event in each unit, or none where there is no event
use Rattle.std.specs.Prelude.{◌≡◌, ℕ, ◌<◌, Bool, Option, List, ◌++◌, map, ℤ, pos, ◌+ℤ◌, ◌-ℤ◌, ◌*ℤ◌}
use Rattle.tdl_control.specs.declared.leaves.Leaf.{Leaf}
use Rattle.tdl_fraction.specs.Rational.{Rational}
use Rattle.tdl_event.specs.Event.{Event}
use Rattle.tdl_meaning.specs.Kinds.{passes}
use Rattle.tdl_meaning.specs.Pairs.{listed}
use Rattle.tdl_grid.specs.Span.{Span, IsCount, HasPieces, map_span, turn_span, arc_of}

pub record Item : Type 0 where
  pub whole : Span
  pub part : Span
  pub value : Leaf

pub record HasCounts (i : Item) : Type 0 where
  pub whole_start : IsCount i.whole.start
  pub whole_stop : IsCount i.whole.stop
  pub part_start : IsCount i.part.start
  pub part_stop : IsCount i.part.stop

abbrev pub HasWholePieces : ℕ → Item → Type 0
HasWholePieces n i = HasPieces n i.whole

abbrev pub retimed : Span → Span → Item → Item
retimed whole part i = record { whole = whole; part = part; value = i.value }

abbrev pub moved_item : (ℤ → ℤ) → Item → Item
moved_item f i = record { whole = map_span f i.whole; part = map_span f i.part; value = i.value }

abbrev pub delayed : ℤ → Item → Item
delayed by = moved_item (λ n. n +ℤ by)

abbrev pub finer_item : ℕ → Item → Item
finer_item times = moved_item (λ n. n *ℤ pos times)

abbrev pub turned_item : ℤ → Item → Item
turned_item round i = record { whole = turn_span (λ n. round -ℤ n) i.whole; part = turn_span (λ n. round -ℤ n) i.part; value = i.value }

abbrev pub event_of : ℕ → Item → Event
event_of u i = record { whole = arc_of u i.whole; part = arc_of u i.part; value = i.value }

abbrev pub passes_in : ℕ → Rational → Rational → Bool → Item → Bool
passes_in u from to inside i = passes from to inside (event_of u i)

pub record Adds (u : ℕ) (old new : List Item) (events : List Event) : Type 0 where
  pub made : List Item
  pub behind : new ≡ old ++ made
  pub plays : map (event_of u) made ≡ events

abbrev pub AddsInEach : List Item → List Item → (ℕ → List Event) → Type 0
AddsInEach old new events = (u : ℕ) → 0 < u → Adds u old new (events u)

abbrev pub PlaysInEach : Option Item → (ℕ → List Event) → Type 0
PlaysInEach item events = (u : ℕ) → 0 < u → map (event_of u) (listed item) ≡ events u
