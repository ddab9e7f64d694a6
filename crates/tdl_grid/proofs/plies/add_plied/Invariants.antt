use Rattle.std.specs.List.{flat_map}
use Rattle.tdl_meaning.specs.Kinds.{fragments}
use Rattle.tdl_grid.specs.Item.{Item, event_of, AddsInEach}
use Rattle.tdl_grid.proofs.plies.add_plied.Given as goal

abbrev pub invariant-loop-item : goal.invariant-loop-item
invariant-loop-item l = AddsInEach l.fn.out l.out (λ u. flat_map (λ (i : Item). fragments l.times (event_of u i)) l.yielded)
