use Rattle.std.proofs.Common.{◌+◌, ◌*◌, length, take}
use Rattle.tdl_mini_tree.specs.Extremes.{AreExtremes}
use Rattle.tdl_mini_tree.specs.Values.{values_of, sequence_values, group_values}
use Rattle.tdl_mini_tree.specs.View.{trees_of, layers_of, sequence_of, group_of}
use Rattle.tdl_mini_tree.proofs.played.+playing.Given as goal

abbrev pub decreases-extremes_of : goal.decreases-extremes_of
decreases-extremes_of l = 6 * length l.nests.now

abbrev pub decreases-sequence_span : goal.decreases-sequence_span
decreases-sequence_span l = 6 * length l.nests.now + 5

abbrev pub decreases-group_span : goal.decreases-group_span
decreases-group_span l = 6 * length l.nests.now + 4

abbrev pub decreases-element_span : goal.decreases-element_span
decreases-element_span l = 6 * length l.nests.now + 3

abbrev pub decreases-term_span : goal.decreases-term_span
decreases-term_span l = 6 * length l.nests.now + 2

abbrev pub decreases-operand_span : goal.decreases-operand_span
decreases-operand_span l = 6 * length l.nests.now + 1

abbrev pub invariant-extremes_of-loop-sequence : goal.invariant-extremes_of-loop-sequence
invariant-extremes_of-loop-sequence l = AreExtremes l.span (values_of (layers_of (trees_of l.before) (take l.sequence-index l.sequence-items)))

abbrev pub invariant-sequence_span-loop-group : goal.invariant-sequence_span-loop-group
invariant-sequence_span-loop-group l = AreExtremes l.span (sequence_values (sequence_of (trees_of l.nests) (take l.group-index l.group-items)))

abbrev pub invariant-group_span-loop-element : goal.invariant-group_span-loop-element
invariant-group_span-loop-element l = AreExtremes l.span (group_values (group_of (trees_of l.nests) (take l.element-index l.element-items)))
