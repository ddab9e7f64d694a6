use Rattle.std.proofs.Common.{◌≤◌, List, length, drop}
use Rattle.tdl_expr.specs.Tree.{Tree}
use Rattle.tdl_expr.specs.Rows.{in_order}
use Rattle.tdl_expr.specs.Valid.{AreValid}
use Rattle.tdl_compile.specs.inside.Sizes.{CollectsTrees, AllStand}
use Rattle.tdl_compile.proofs.rows.group_of.Given as goal

abbrev pub invariant-loop-at : goal.invariant-loop-at
invariant-loop-at l = (l.at ≤ length l.ids)
    × ((trees : List Tree) → AllStand l.rows trees → AreValid (in_order trees (drop l.at l.ids))
    → CollectsTrees l.group (in_order trees (drop l.at l.ids)))

abbrev pub decreases-loop-at : goal.decreases-loop-at
decreases-loop-at l = l.at
