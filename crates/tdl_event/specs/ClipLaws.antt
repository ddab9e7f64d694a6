-- What a clip leaves of a list of events, said of what the list has at each time.
use Rattle.std.specs.Prelude.{◌≡◌, ◌≤◌, length, Bool, ◌&&◌, if◌then◌else◌, List, [], ◌∷◌}
use Rattle.std.specs.List.{flat_map}
use Rattle.tdl_control.specs.declared.leaves.Leaf.{Leaf}
use Rattle.tdl_fraction.specs.Rational.{Rational, le_ℚ, lt_ℚ}
use Rattle.tdl_fraction.specs.Arc.{Arc, IsIn}
use Rattle.tdl_event.specs.Event.{Event, clip}

-- the time is in the arc
abbrev pub is_in : Rational → Arc → Bool
is_in t arc = le_ℚ arc.start t && lt_ℚ t arc.stop

-- the whole and the value of the event, where the time is in its part
abbrev pub seen_of : Rational → Event → List (Arc × Leaf)
seen_of t e = if is_in t e.part then (e.whole, e.value) ∷ [] else []

-- what the list has at the time, in its order
abbrev pub seen_at : Rational → List Event → List (Arc × Leaf)
seen_at t events = flat_map (seen_of t) events

pub record ClipLaws : Type 0 where
  -- at a time of the arc there is all that there was
  pub within : (arc : Arc) (events : List Event) (t : Rational) → IsIn t arc → seen_at t (clip arc events) ≡ seen_at t events
  -- at every other time there is nothing
  pub outside : (arc : Arc) (events : List Event) (t : Rational) → ¬ (IsIn t arc) → seen_at t (clip arc events) ≡ []
  -- no event becomes more than one
  pub no_more : (arc : Arc) (events : List Event) → length (clip arc events) ≤ length events
