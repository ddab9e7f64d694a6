use Rattle.std.proofs.Common.{take}
use Rattle.std.specs.List.{range_with_len}
use Rattle.tdl_expr.specs.Rows.{tree_at}
use Rattle.tdl_rows.specs.Built.{each}
use Rattle.tdl_rows.specs.inside.Views.{LowersIds}
use Rattle.tdl_combinator.specs.Makings.{turned_on}
use Rattle.tdl_combinator.proofs.in_time.turns_of.Given as goal

abbrev pub invariant-loop-i : goal.invariant-loop-i
invariant-loop-i l =
    LowersIds l.initial.table l.table (each (turned_on l.shares (tree_at l.initial.table l.child)) (take l.i (range_with_len 0 l.shares))) l.turns.items
