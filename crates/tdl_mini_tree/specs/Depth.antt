-- How deep brackets nest: the round ones of a Euclid, and those of a factor, too.
--     depth_of         how many brackets are open where most are, in layers
use Rattle.std.specs.Prelude.{ℕ, suc, max}
use Rattle.tdl_mini_tree.specs.Tree as tree

abbrev mutual
  pub depth_of : tree.Layers → ℕ
  depth_of tree.no_layer = 0
  depth_of (tree.layer ls s) = max (depth_of ls) (sequence_depth s)

  pub sequence_depth : tree.Sequence → ℕ
  sequence_depth tree.no_group = 0
  sequence_depth (tree.group s g) = max (sequence_depth s) (group_depth g)

  pub group_depth : tree.Group → ℕ
  group_depth tree.no_element = 0
  group_depth (tree.element g e) = max (group_depth g) (element_depth e)

  pub element_depth : tree.Element → ℕ
  element_depth (tree.played s weight times) = step_depth s
  element_depth (tree.range a b) = 0
  element_depth tree.hold = 0
  element_depth tree.repeat = 0

  pub step_depth : tree.MiniStep → ℕ
  step_depth (tree.begins t) = term_depth t
  step_depth (tree.fast s o) = max (step_depth s) (operand_depth o)
  step_depth (tree.slow s o) = max (step_depth s) (operand_depth o)
  step_depth (tree.euclid s k n) = max (step_depth s) (suc (max (depth_of k) (depth_of n)))
  step_depth (tree.euclid_from s k n r) = max (step_depth s) (suc (max (depth_of k) (max (depth_of n) (depth_of r))))

  pub term_depth : tree.Term → ℕ
  term_depth (tree.value v) = 0
  term_depth tree.rest = 0
  term_depth (tree.bracketed o) = operand_depth o

  pub operand_depth : tree.Operand → ℕ
  operand_depth (tree.scaled bs n) = braces_depth bs
  operand_depth (tree.nested bs shape ls) = max (braces_depth bs) (suc (depth_of ls))

  pub braces_depth : tree.Braces → ℕ
  braces_depth tree.no_brace = 0
  braces_depth (tree.brace bs ls) = max (braces_depth bs) (suc (depth_of ls))
