use Rattle.std.proofs.Common.{◌+◌, ◌*◌, ◌∷◌, [], map, take}
use Rattle.tdl_expr.specs.Rows.{in_order, weighted as steps_of, trees_of}
use Rattle.tdl_meaning.specs.Pattern.{Share}
use Rattle.tdl_meaning.specs.Meaning.{patterns, weighted as shares_of}
use Rattle.tdl_meaning.specs.Proper.{Each}
use Rattle.tdl_meaning.specs.Repeats.{Repeats}
use Rattle.tdl_meaning.specs.inside.Children.{rows_needed}
use Rattle.tdl_meaning.proofs.repeats.+repeats.Given as goal

abbrev pub decreases-tree_repeats : goal.decreases-tree_repeats
decreases-tree_repeats l = 3 * l.id.index + 2

abbrev pub decreases-turns_repeat : goal.decreases-turns_repeat
decreases-turns_repeat l = 3 * rows_needed l.children.now + 1

abbrev pub decreases-trees_repeat : goal.decreases-trees_repeat
decreases-trees_repeat l = 3 * rows_needed l.children.now

abbrev pub decreases-both_repeat : goal.decreases-both_repeat
decreases-both_repeat l = 3 * rows_needed (l.left ∷ l.right ∷ [])

abbrev pub decreases-steps_repeat : goal.decreases-steps_repeat
decreases-steps_repeat l = 3 * rows_needed (map (λ s. s.child) l.steps.now)

abbrev pub invariant-trees_repeat-loop-child : goal.invariant-trees_repeat-loop-child
invariant-trees_repeat-loop-child l = Each (Repeats l.cycles) (patterns (in_order (trees_of l.table) (take l.child-index l.child-items)))

abbrev pub invariant-steps_repeat-loop-step : goal.invariant-steps_repeat-loop-step
invariant-steps_repeat-loop-step l =
    Each (λ (s : Share). Repeats l.cycles s.pattern) (shares_of (steps_of (trees_of l.table) (take l.step-index l.step-items)))
