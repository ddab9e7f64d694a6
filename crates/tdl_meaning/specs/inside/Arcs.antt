-- Arcs that may be missing, and what a sequence asks of its steps.
--     clip_met      the events of a list in an arc, and nothing where there is no arc
--     over_met      a pattern's events in an arc, and nothing where there is no arc
--     share         the part of a cycle that a step has
--     step_ask      what a step is asked for, where an arc of a cycle is asked for
--     steps_over    the steps' events in an arc of a cycle
use Rattle.std.specs.Prelude.{ℕ, ◌+◌, ℤ, List, [], ◌∷◌, ◌++◌, map, Option, Some, None, option_map}
use Rattle.tdl_fraction.specs.Arc.{Arc, map_arc, meet}
use Rattle.tdl_event.specs.Event.{Event, clip}
use Rattle.tdl_meaning.specs.Pattern.{Pattern, Share, over, moved, cycle_arc, squeezed}
use Rattle.tdl_meaning.specs.Heard.{unsqueezed}

abbrev pub clip_met : Option Arc → List Event → List Event
clip_met None events = []
clip_met (Some a) events = clip a events

abbrev pub over_met : Pattern → Option Arc → List Event
over_met p None = []
over_met p (Some a) = over p a

-- of cycle c, the share of weight w after earlier weights o, of weights W in all
abbrev pub share : ℤ → ℕ → ℕ → ℕ → Arc
share c o w W = map_arc (squeezed c o w W) (cycle_arc c)

-- what the arc has of the share, brought back to the whole cycle
abbrev pub step_ask : ℤ → ℕ → ℕ → ℕ → Arc → Option Arc
step_ask c o w W a = option_map (map_arc (unsqueezed c o w W)) (meet (share c o w W) a)

-- of the steps after earlier weights o, of weights W in all
abbrev pub steps_over : ℕ → ℕ → List Share → ℤ → Arc → List Event
steps_over W o [] c a = []
steps_over W o (s ∷ steps) c a =
    map (moved (squeezed c o s.weight W)) (over_met s.pattern (step_ask c o s.weight W a)) ++ steps_over W (o + s.weight) steps c a
