use Rattle.std.proofs.Common.{take}
use Rattle.tdl_rows.specs.Built.{each}
use Rattle.tdl_rows.specs.inside.Views.{LowersIds}
use Rattle.tdl_combinator.specs.inside.Numbered.{with_first, with_second}
use Rattle.tdl_combinator.proofs.applying.+applying.Given as goal

abbrev pub invariant-at_second-loop-i : goal.invariant-at_second-loop-i
invariant-at_second-loop-i l =
    LowersIds l.initial.table l.table (each (with_second l.initial.table l.how l.part l.child l.first) (take l.i l.values)) l.children

abbrev pub invariant-at_first-loop-i : goal.invariant-at_first-loop-i
invariant-at_first-loop-i l =
    LowersIds l.initial.table l.table (each (with_first l.initial.table l.how l.part l.child l.second) (take l.i l.values)) l.children
