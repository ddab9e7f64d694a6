use Rattle.std.proofs.Common.{List, ap, map}
use Rattle.tdl_rows.specs.Joined.{Weighted, tree_of, stack_of}
use Rattle.tdl_mini_rows.specs.Leaves.{leaf_of}
use Rattle.tdl_mini_rows.specs.Lowered.{in_turn}
use Rattle.tdl_mini.proofs.TextLaws.{repeat_again}
use Rattle.tdl_mini.proofs.laws.a_repeat_is_the_step_again.Goals as goal

pub returns : goal.returns
returns c a weight = record {
  texts = λ kind before others.
      ap (λ (ss : List Weighted). (stack_of (map tree_of ss)).value) (repeat_again (leaf_of kind) in_turn a weight before others);
  inside = λ play finish before others. repeat_again play finish a weight before others;
}
