-- Brackets of a tree of the grammar nest no deeper than they may.
--     layers_deep      inside so many brackets, as deep as there is room for
--     formed_shallow   inside the brackets that may be open
use Rattle.std.proofs.Common.{ℕ, suc, ◌-◌, ◌<◌, ◌≤◌, max, IsTrue, arith}
use Rattle.std.proofs.Math.Nat.{max-le}
use Rattle.std.proofs.lemmas.Bool.{le-leb}
use Rattle.tdl_mini_tree.specs.declared.leaves.Kind.{Kind}
use Rattle.tdl_mini_tree.specs.declared.leaves.Kind.TheVariants.{Count, Ratio}
use Rattle.tdl_mini_tree.specs.Limits.{max_depth}
use Rattle.tdl_mini_grammar.specs.Grammar.{Formed, FormedSequence, FormedGroup, FormedElement, FormedStep, FormedTerm, FormedOperand, FormedBraces}
use Rattle.tdl_mini_tree.specs.Tree.{kind_after}
use Rattle.tdl_mini_tree.specs.Depth.{depth_of, sequence_depth, group_depth, element_depth, step_depth, term_depth, operand_depth, braces_depth}
use Rattle.tdl_mini_tree.specs.Valid.{is_shallow}
use Rattle.tdl_mini_tree.specs.Tree as tree

-- one bracket more than what is in it
one_more : (depth inner : ℕ) → depth < max_depth → inner ≤ max_depth - suc depth → suc inner ≤ max_depth - depth
one_more depth inner h k = omega arith

mutual
  layers_deep : (kind : Kind) (depth : ℕ) (ls : tree.Layers) → Formed kind depth ls → depth_of ls ≤ max_depth - depth
  layers_deep kind depth tree.no_layer formed = omega arith
  layers_deep kind depth (tree.layer ls s) formed = max-le (layers_deep kind depth ls formed.0) (sequence_deep kind depth s formed.2)

  sequence_deep : (kind : Kind) (depth : ℕ) (s : tree.Sequence) → FormedSequence kind depth s → sequence_depth s ≤ max_depth - depth
  sequence_deep kind depth tree.no_group formed = omega arith
  sequence_deep kind depth (tree.group s g) formed = max-le (sequence_deep kind depth s formed.0) (group_deep kind depth g formed.1)

  group_deep : (kind : Kind) (depth : ℕ) (g : tree.Group) → FormedGroup kind depth g → group_depth g ≤ max_depth - depth
  group_deep kind depth tree.no_element formed = omega arith
  group_deep kind depth (tree.element g e) formed = max-le (group_deep kind depth g formed.0) (element_deep kind depth e formed.2)

  element_deep : (kind : Kind) (depth : ℕ) (e : tree.Element) → FormedElement kind depth e → element_depth e ≤ max_depth - depth
  element_deep kind depth (tree.played s weight times) formed = step_deep kind depth s formed
  element_deep kind depth (tree.range a b) formed = omega arith
  element_deep kind depth tree.hold formed = omega arith
  element_deep kind depth tree.repeat formed = omega arith

  step_deep : (kind : Kind) (depth : ℕ) (s : tree.MiniStep) → FormedStep kind depth s → step_depth s ≤ max_depth - depth
  step_deep kind depth (tree.begins t) formed = term_deep kind depth t formed
  step_deep kind depth (tree.fast s o) formed = max-le (step_deep kind depth s formed.0) (operand_deep Ratio depth o formed.1)
  step_deep kind depth (tree.slow s o) formed = max-le (step_deep kind depth s formed.0) (operand_deep Ratio depth o formed.1)
  step_deep kind depth (tree.euclid s k n) formed =
      max-le (step_deep kind depth s formed.0)
      (one_more depth (max (depth_of k) (depth_of n)) formed.1 (max-le (layers_deep Count (suc depth) k formed.3) (layers_deep Count (suc depth) n formed.5)))
  step_deep kind depth (tree.euclid_from s k n r) formed =
      let inner : max (depth_of k) (max (depth_of n) (depth_of r)) ≤ max_depth - suc depth =
      max-le (layers_deep Count (suc depth) k formed.3) (max-le (layers_deep Count (suc depth) n formed.5) (layers_deep Count (suc depth) r formed.7)) in
      max-le (step_deep kind depth s formed.0) (one_more depth (max (depth_of k) (max (depth_of n) (depth_of r))) formed.1 inner)

  term_deep : (kind : Kind) (depth : ℕ) (t : tree.Term) → FormedTerm kind depth t → term_depth t ≤ max_depth - depth
  term_deep kind depth (tree.value v) formed = omega arith
  term_deep kind depth tree.rest formed = omega arith
  term_deep kind depth (tree.bracketed o) formed = operand_deep kind depth o formed.1

  operand_deep : (kind : Kind) (depth : ℕ) (o : tree.Operand) → FormedOperand kind depth o → operand_depth o ≤ max_depth - depth
  operand_deep kind depth (tree.scaled bs n) formed = braces_deep kind depth bs formed
  operand_deep kind depth (tree.nested bs shape ls) formed =
      max-le (braces_deep kind depth bs formed.0) (one_more depth (depth_of ls) formed.1 (layers_deep (kind_after kind bs) (suc depth) ls formed.3))

  braces_deep : (kind : Kind) (depth : ℕ) (bs : tree.Braces) → FormedBraces kind depth bs → braces_depth bs ≤ max_depth - depth
  braces_deep kind depth tree.no_brace formed = omega arith
  braces_deep kind depth (tree.brace bs ls) formed =
      max-le (braces_deep kind depth bs formed.0) (one_more depth (depth_of ls) formed.1 (layers_deep (kind_after kind bs) (suc depth) ls formed.3))

pub formed_shallow : (kind : Kind) (depth : ℕ) (ls : tree.Layers) → Formed kind depth ls → IsTrue (is_shallow ls)
formed_shallow kind depth ls formed = let deep = layers_deep kind depth ls formed in le-leb (depth_of ls) max_depth (omega arith)
