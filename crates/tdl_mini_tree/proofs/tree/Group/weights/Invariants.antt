use Rattle.std.proofs.Common.{take}
use Rattle.tdl_mini_tree.proofs.GroupSizes.{SizeSoFar}
use Rattle.tdl_mini_tree.proofs.tree.Group.weights.Given as goal

abbrev pub invariant-loop-element : goal.invariant-loop-element
invariant-loop-element l = SizeSoFar l.size (take l.element-index l.element-items)
