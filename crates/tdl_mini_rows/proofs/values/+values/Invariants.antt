use Rattle.std.proofs.Common.{◌≡◌, ◌+◌, ◌*◌, length, take}
use Rattle.std.specs.List.{fold}
use Rattle.tdl_mini_tree.specs.Values.{values_of, sequence_values, group_values}
use Rattle.tdl_mini_tree.specs.View.{trees_of, layers_of, sequence_of, group_of}
use Rattle.tdl_mini_rows.specs.Leaves.{and_distinct}
use Rattle.tdl_mini_rows.proofs.values.+values.Given as goal

abbrev pub decreases-add_layers : goal.decreases-add_layers
decreases-add_layers l = 4 * length l.nests.now

abbrev pub decreases-add_sequence : goal.decreases-add_sequence
decreases-add_sequence l = 4 * length l.nests.now + 3

abbrev pub decreases-add_group : goal.decreases-add_group
decreases-add_group l = 4 * length l.nests.now + 2

abbrev pub decreases-add_element : goal.decreases-add_element
decreases-add_element l = 4 * length l.nests.now + 1

abbrev pub invariant-add_layers-loop-sequence : goal.invariant-add_layers-loop-sequence
invariant-add_layers-loop-sequence l = l.numbers ≡ fold and_distinct l.initial.numbers
    (values_of (layers_of (trees_of l.before) (take l.sequence-index l.sequence-items)))

abbrev pub invariant-add_sequence-loop-group : goal.invariant-add_sequence-loop-group
invariant-add_sequence-loop-group l = l.numbers ≡ fold and_distinct l.initial.numbers
    (sequence_values (sequence_of (trees_of l.nests) (take l.group-index l.group-items)))

abbrev pub invariant-add_group-loop-element : goal.invariant-add_group-loop-element
invariant-add_group-loop-element l = l.numbers ≡ fold and_distinct l.initial.numbers
    (group_values (group_of (trees_of l.nests) (take l.element-index l.element-items)))
