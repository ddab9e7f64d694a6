use Rattle.std.proofs.Common.{◌≡◌, ◌++◌}
use Rattle.std.specs.List.{flat_map, range_with_len}
use Rattle.tdl_meaning.specs.Kinds.{piece, fragment}
use Rattle.tdl_meaning.proofs.plies.add_fragments.Given as goal

abbrev pub invariant-loop-j : goal.invariant-loop-j
invariant-loop-j l =
    let e = l.fn.event in
    record {
      out : l.out ≡ l.fn.out ++ flat_map (λ j. fragment (piece l.times e.whole j) e) (range_with_len 0 l.j);
      value : l.value ≡ e.value;
    }
