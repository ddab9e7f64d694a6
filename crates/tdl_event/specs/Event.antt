-- Events: a value that a pattern has for some time, in cycles.
--     Event         the whole, the part of it that is meant, and the value
--     HasOnset      the event begins with its part
--     clip          the events of a list in an arc, each cut to it, in their order
--     retimed       an event with other times
--     line_of       the line of an event whose value is a map; other events have none
--     print_of      the lines of a list, in its order
use Rattle.std.specs.Prelude.{◌≡◌, Some, None, ℕ, List, [], ◌∷◌, ◌++◌, codes}
use Rattle.std.specs.List.{flat_map}
use Rattle.tdl_control.specs.declared.leaves.Leaf.{Leaf}
use Rattle.tdl_control.specs.declared.leaves.Leaf.TheVariants.{Controls, Truth, Index}
use Rattle.tdl_control.specs.Map.{KeyValues, print_of as map_text}
use Rattle.tdl_fraction.specs.Arc.{Arc, meet}
use Rattle.tdl_fraction.specs.Printing.{print_of as time_text}

pub record Event : Type 0 where
  pub whole : Arc
  pub part : Arc
  pub value : Leaf

-- the part starts where the whole starts
abbrev pub HasOnset : Event → Type 0
HasOnset e = e.part.start ≡ e.whole.start

-- the event in an arc: its part becomes what it shares with the arc; nothing where they do not meet
abbrev pub clip_event : Arc → Event → List Event
clip_event arc e = elim (meet e.part arc) [ Some part ↦ record { whole = e.whole; part = part; value = e.value } ∷ [] | None ↦ [] ]

abbrev pub clip : Arc → List Event → List Event
clip arc events = flat_map (clip_event arc) events

-- the event with another whole and another part
abbrev pub retimed : Arc → Arc → Event → Event
retimed whole part e = record { whole = whole; part = part; value = e.value }

-- `start stop`
abbrev pub arc_text : Arc → List ℕ
arc_text arc = time_text arc.start ++ codes " " ++ time_text arc.stop

-- `whole-start whole-stop part-start part-stop`
abbrev pub arcs_text : Event → List ℕ
arcs_text e = arc_text e.whole ++ codes " " ++ arc_text e.part

-- that, the map after a space, and a line feed
abbrev pub controls_line : Event → KeyValues → List ℕ
controls_line e controls = arcs_text e ++ codes " " ++ map_text controls ++ codes "\n"

abbrev pub line_of : Event → List ℕ
line_of e = elim e.value [ Controls controls ↦ controls_line e controls | Truth truth ↦ [] | Index index ↦ [] ]

abbrev pub print_of : List Event → List ℕ
print_of events = flat_map line_of events
