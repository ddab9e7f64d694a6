use Rattle.std.proofs.Common.{◌≡◌}
use Rattle.std.specs.List.{flat_map, range_with_len}
use Rattle.tdl_meaning.specs.Kinds.{piece, fragment}
use Rattle.tdl_grid.specs.Span.{arc_of}
use Rattle.tdl_grid.specs.Item.{event_of, AddsInEach}
use Rattle.tdl_grid.specs.Values.{leaf_of}
use Rattle.tdl_grid.proofs.plies.add_fragments.Given as goal

abbrev pub invariant-loop-j : goal.invariant-loop-j
invariant-loop-j l =
    let i = l.fn.item in
    record {
      out : AddsInEach l.fn.out l.out (λ u. flat_map (λ j. fragment (piece l.times (arc_of u i.whole) j) (event_of u i)) (range_with_len 0 l.j));
      value : leaf_of l.value ≡ i.value;
    }
