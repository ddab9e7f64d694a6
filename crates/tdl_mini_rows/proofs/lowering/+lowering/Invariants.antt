use Rattle.std.proofs.Common.{◌+◌, ◌*◌, length, take, map}
use Rattle.std.specs.List.{fold}
use Rattle.tdl_mini_tree.specs.Tree.{begins}
use Rattle.tdl_mini_tree.specs.View.{trees_of, layers_of, sequence_of, group_of, changed, term_of, named}
use Rattle.tdl_mini_rows.specs.Lowered.{layers_built, groups_built, group_built, step_built}
use Rattle.tdl_rows.specs.Lowers.{Lowers}
use Rattle.tdl_mini_rows.specs.inside.Views.{LowersSteps, play_of, finish_with}
use Rattle.tdl_mini_rows.specs.inside.Waits.{LowersWaits, waits_built}
use Rattle.tdl_mini_rows.proofs.lowering.+lowering.Given as goal

abbrev pub decreases-layers_of : goal.decreases-layers_of
decreases-layers_of l = 12 * length l.nests.now

abbrev pub decreases-sequence_of : goal.decreases-sequence_of
decreases-sequence_of l = 12 * length l.nests.now + 11

abbrev pub decreases-group_of : goal.decreases-group_of
decreases-group_of l = 12 * length l.nests.now + 10

abbrev pub decreases-add_element : goal.decreases-add_element
decreases-add_element l = 12 * length l.nests.now + 9

abbrev pub decreases-step_of : goal.decreases-step_of
decreases-step_of l = 12 * length l.nests.now + 8

abbrev pub decreases-changed : goal.decreases-changed
decreases-changed l = 12 * length l.nests.now + 7

abbrev pub decreases-operand_of : goal.decreases-operand_of
decreases-operand_of l = 12 * length l.nests.now + 6

abbrev pub decreases-factor_of : goal.decreases-factor_of
decreases-factor_of l = 12 * length l.nests.now + 5

abbrev pub decreases-argument_of : goal.decreases-argument_of
decreases-argument_of l = 12 * length l.nests.now + 5

abbrev pub decreases-waiting_of : goal.decreases-waiting_of
decreases-waiting_of l = 12 * length l.nests.now + 4

abbrev pub decreases-selected : goal.decreases-selected
decreases-selected l = 12 * length l.nests.now + 4

abbrev pub invariant-layers_of-loop-sequence : goal.invariant-layers_of-loop-sequence
invariant-layers_of-loop-sequence l =
    LowersSteps l.initial.table l.table
    (layers_built (play_of l.play) (finish_with l.finish) (layers_of (trees_of l.before) (take l.sequence-index l.sequence-items))) l.joined.items

abbrev pub invariant-group_of-loop-element : goal.invariant-group_of-loop-element
invariant-group_of-loop-element l =
    LowersSteps l.initial.table l.table (group_built (play_of l.play) (group_of (trees_of l.nests) (take l.element-index l.element-items))) l.steps.items

abbrev pub decreases-term_of : goal.decreases-term_of
decreases-term_of l = 12 * length l.nests.now + 7

abbrev pub invariant-sequence_of-loop-group : goal.invariant-sequence_of-loop-group
invariant-sequence_of-loop-group l =
    LowersSteps l.initial.table l.table (groups_built (play_of l.play) (sequence_of (trees_of l.nests) (take l.group-index l.groups))) l.steps.items

abbrev pub invariant-step_of-loop-change : goal.invariant-step_of-loop-change
invariant-step_of-loop-change l =
    Lowers l.fn.table l.table
    (step_built (play_of l.play)
    (fold (changed (trees_of l.nests)) (begins (term_of (trees_of l.nests) l.step.term)) (take l.change-index l.change-items))) l.id

abbrev pub invariant-waiting_of-loop-id : goal.invariant-waiting_of-loop-id
invariant-waiting_of-loop-id l = LowersWaits l.initial.table l.table (waits_built (map (named (trees_of l.nests)) (take l.id-index l.braces))) l.waiting.items

abbrev pub decreases-from_of : goal.decreases-from_of
decreases-from_of l = 12 * length l.nests.now + 6
