use Rattle.std.proofs.Common.{◌≡◌, ◌+◌, ◌*◌, max, length, drop}
use Rattle.tdl_expr.specs.Bounds.{fine_of, fine_of_steps, reach_of, reach_of_steps}
use Rattle.tdl_expr.specs.Rows.{in_order, weighted, trees_of}
use Rattle.tdl_compile.specs.Compiled.{capped}
use Rattle.tdl_compile.proofs.extents.+extents.Given as goal

abbrev pub decreases-extent_at : goal.decreases-extent_at
decreases-extent_at l = 4 * l.id.index + 3

abbrev pub decreases-extent_of_tree : goal.decreases-extent_of_tree
decreases-extent_of_tree l = 4 * l.id.index + 2

abbrev pub decreases-extent_below : goal.decreases-extent_below
decreases-extent_below l = 4 * l.id.index + 1

abbrev pub decreases-extent_of : goal.decreases-extent_of
decreases-extent_of l = 4 * length l.rows.now

abbrev pub decreases-extent_of_steps : goal.decreases-extent_of_steps
decreases-extent_of_steps l = 4 * length l.rows.now

abbrev pub invariant-extent_of-loop-id : goal.invariant-extent_of-loop-id
invariant-extent_of-loop-id l =
    (max l.extent.fine (capped (fine_of (in_order (trees_of l.table) (drop l.id-index l.ids)) l.asked.grid))
    ≡ capped (fine_of (in_order (trees_of l.table) l.ids) l.asked.grid))
    × (max l.extent.reach (capped (reach_of (in_order (trees_of l.table) (drop l.id-index l.ids)) l.asked.far))
    ≡ capped (reach_of (in_order (trees_of l.table) l.ids) l.asked.far))

abbrev pub invariant-extent_of_steps-loop-step : goal.invariant-extent_of_steps-loop-step
invariant-extent_of_steps-loop-step l =
    (max l.extent.fine (capped (fine_of_steps (weighted (trees_of l.table) (drop l.step-index l.steps)) l.asked.grid))
    ≡ capped (fine_of_steps (weighted (trees_of l.table) l.steps) l.asked.grid))
    × (max l.extent.reach (capped (reach_of_steps (weighted (trees_of l.table) (drop l.step-index l.steps)) l.asked.far))
    ≡ capped (reach_of_steps (weighted (trees_of l.table) l.steps) l.asked.far))
