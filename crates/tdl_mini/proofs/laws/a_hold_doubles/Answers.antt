use Rattle.std.proofs.Common.{ap}
use Rattle.tdl_mini_rows.specs.Leaves.{leaf_of}
use Rattle.tdl_mini_rows.specs.Lowered.{in_turn, stacked}
use Rattle.tdl_mini.proofs.TextLaws.{hold_doubles}
use Rattle.tdl_mini.proofs.laws.a_hold_doubles.Goals as goal

pub returns : goal.returns
returns c a = record {
  texts = λ kind before others. ap stacked (hold_doubles (leaf_of kind) in_turn a before others);
  inside = λ play finish before others. hold_doubles play finish a before others;
}
