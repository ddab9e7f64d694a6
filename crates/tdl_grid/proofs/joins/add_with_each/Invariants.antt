use Rattle.std.proofs.Common.{take}
use Rattle.std.specs.List.{flat_map}
use Rattle.tdl_meaning.specs.Values.{value_of}
use Rattle.tdl_meaning.specs.Pairs.{made_with}
use Rattle.tdl_grid.specs.Item.{Item, event_of, AddsInEach}
use Rattle.tdl_grid.proofs.joins.add_with_each.Given as goal

abbrev pub invariant-loop-i : goal.invariant-loop-i
invariant-loop-i l =
    AddsInEach l.fn.out l.out (λ u. flat_map (λ (o : Item). made_with l.side (value_of l.op) (event_of u l.first) (event_of u o)) (take l.i l.others))
