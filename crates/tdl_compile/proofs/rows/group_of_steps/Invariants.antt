use Rattle.std.proofs.Common.{◌≤◌, List, length, drop}
use Rattle.tdl_expr.specs.Tree.{Tree}
use Rattle.tdl_expr.specs.Rows.{weighted}
use Rattle.tdl_expr.specs.Valid.{AreValidSteps}
use Rattle.tdl_compile.specs.inside.Sizes.{CollectsSteps, AllStand}
use Rattle.tdl_compile.proofs.rows.group_of_steps.Given as goal

abbrev pub invariant-loop-at : goal.invariant-loop-at
invariant-loop-at l = (l.at ≤ length l.steps)
    × ((trees : List Tree) → AllStand l.rows trees → AreValidSteps (weighted trees (drop l.at l.steps))
    → CollectsSteps l.group (weighted trees (drop l.at l.steps)))

abbrev pub decreases-loop-at : goal.decreases-loop-at
decreases-loop-at l = l.at
