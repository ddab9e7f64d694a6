-- What two events make in a join, by the side that gives the wholes.
--     made_with        what one of the side that gives the wholes makes with one of the other
--     pairs_of         what the events of the two sides make, in that order
--     joined_pairs     what those of the left and of the right side make
--     listed           what there is, if there is anything
use Rattle.std.specs.Prelude.{Option, Some, None, List, [], ◌∷◌}
use Rattle.std.specs.List.{flat_map}
use Rattle.tdl_event.specs.Event.{Event}
use Rattle.tdl_expr.specs.declared.joinings.Side.{Side}
use Rattle.tdl_expr.specs.declared.joinings.Side.TheVariants.{Left, Right, Both}
use Rattle.tdl_meaning.specs.Kinds.{Joining, pair_of}

-- what an event of the side that gives the wholes, or of the left one where both do, makes with one of the other
abbrev pub made_with : Side → Joining → Event → Event → List Event
made_with Left v e other = pair_of Left v e other
made_with Right v e other = pair_of Right v other e
made_with Both v e other = pair_of Both v e other

-- each of those in turn with each of the other side
abbrev pub pairs_of : Side → Joining → List Event → List Event → List Event
pairs_of side v es others = flat_map (λ e. flat_map (λ o. made_with side v e o) others) es

abbrev pub joined_pairs : Side → Joining → List Event → List Event → List Event
joined_pairs Left v ls rs = pairs_of Left v ls rs
joined_pairs Right v ls rs = pairs_of Right v rs ls
joined_pairs Both v ls rs = pairs_of Both v ls rs

abbrev pub listed : {X : Type 0} → Option X → List X
listed (Some x) = x ∷ []
listed None = []
