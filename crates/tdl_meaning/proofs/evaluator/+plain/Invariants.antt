use Rattle.std.proofs.Common.{◌≡◌, ◌+◌, ◌*◌, ◌∷◌, [], ◌++◌, map, take, drop}
use Rattle.std.specs.List.{flat_map, sum_by}
use Rattle.tdl_fraction.specs.Rational.{floor}
use Rattle.tdl_event.specs.Event.{Event, clip}
use Rattle.tdl_expr.specs.Rows.{row, in_order, weighted as steps_of, trees_of, tree_at}
use Rattle.tdl_expr.specs.Tree as tree
use Rattle.tdl_meaning.specs.Pattern.{whole_range, picked, steps_from}
use Rattle.tdl_meaning.specs.Meaning.{cyc, patterns, weighted as shares_of}
use Rattle.tdl_meaning.specs.inside.Children.{rows_needed}
use Rattle.tdl_meaning.proofs.evaluator.+plain.Given as goal

abbrev pub decreases-in_arc : goal.decreases-in_arc
decreases-in_arc l = 6 * l.id.index + 4

abbrev pub decreases-in_cycle : goal.decreases-in_cycle
decreases-in_cycle l = 6 * l.id.index + 3

abbrev pub decreases-fast : goal.decreases-fast
decreases-fast l = 6 * (l.child.index + 1)

abbrev pub decreases-rev : goal.decreases-rev
decreases-rev l = 6 * (l.child.index + 1)

abbrev pub decreases-time_cat : goal.decreases-time_cat
decreases-time_cat l = 6 * rows_needed (map (λ s. s.child) l.steps.now)

abbrev pub decreases-cat : goal.decreases-cat
decreases-cat l = 6 * rows_needed l.children.now

abbrev pub decreases-stack : goal.decreases-stack
decreases-stack l = 6 * rows_needed l.children.now

abbrev pub decreases-when : goal.decreases-when
decreases-when l = 6 * rows_needed (l.yes ∷ l.no ∷ [])

abbrev pub decreases-shift : goal.decreases-shift
decreases-shift l = 6 * (l.child.index + 1)

abbrev pub decreases-join : goal.decreases-join
decreases-join l = 6 * rows_needed (l.left ∷ l.right ∷ [])

abbrev pub decreases-ply : goal.decreases-ply
decreases-ply l = 6 * (l.child.index + 1)

abbrev pub decreases-gate : goal.decreases-gate
decreases-gate l = 6 * (l.child.index + 1)

abbrev pub decreases-pick : goal.decreases-pick
decreases-pick l = 6 * rows_needed (l.selector ∷ l.children.now) + 2

abbrev pub decreases-chosen : goal.decreases-chosen
decreases-chosen l = 6 * rows_needed l.children.now + 1

abbrev pub decreases-choice : goal.decreases-choice
decreases-choice l = 6 * rows_needed l.children.now

abbrev pub invariant-in_arc-loop-k : goal.invariant-in_arc-loop-k
invariant-in_arc-loop-k l = l.events ≡ flat_map (λ c. clip l.arc (cyc (tree_at l.table l.id) c)) (whole_range (floor l.arc.start) l.k)

abbrev pub invariant-stack-loop-child : goal.invariant-stack-loop-child
invariant-stack-loop-child l = l.events ≡ flat_map (λ id. cyc (row (trees_of l.table) id) l.cycle) (take l.child-index l.child-items)

-- with what the steps that are left give, it is what all give
abbrev pub invariant-time_cat-loop-step : goal.invariant-time_cat-loop-step
invariant-time_cat-loop-step l =
    (l.events ++ steps_from l.total l.before (shares_of (steps_of (trees_of l.table) (drop l.step-index l.step-items))) l.cycle
    ≡ cyc (tree.TimeCat (steps_of (trees_of l.table) l.step-items)) l.cycle)
    × (l.before + sum_by (λ s. s.weight) (drop l.step-index l.step-items) ≡ l.total)

abbrev pub invariant-chosen-loop-i : goal.invariant-chosen-loop-i
invariant-chosen-loop-i l =
    l.events ≡ flat_map (λ (e : Event). picked (patterns (in_order (trees_of l.table) l.children)) e.part e.value) (take l.i l.selected)
