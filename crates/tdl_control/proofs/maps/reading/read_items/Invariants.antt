use Rattle.std.specs.Option.{option_copied}
use Rattle.tdl_control.specs.Map.{IsMap}
use Rattle.tdl_control.specs.inside.ReadSteps.{IsReadTo, left_size}
use Rattle.tdl_control.proofs.maps.reading.read_items.Given as goal

-- the map's entries stand before what is left
abbrev pub invariant-loop-rest : goal.invariant-loop-rest
invariant-loop-rest l = record { read_to : IsReadTo l.text l.map (option_copied l.rest); is_map : IsMap l.map }

abbrev pub decreases-loop-rest : goal.decreases-loop-rest
decreases-loop-rest l = left_size (option_copied l.rest)
