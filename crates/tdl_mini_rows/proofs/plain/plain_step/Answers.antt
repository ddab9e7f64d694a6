use Rattle.std.proofs.Common.{arith}
use Rattle.tdl_mini_tree.specs.Tree.{begins}
use Rattle.tdl_mini_tree.specs.View.{term_of}
use Rattle.tdl_mini_rows.proofs.PlainViews.{changed_none}
use Rattle.tdl_mini_rows.proofs.plain.plain_step.Goals as goal

pub returns-then-not-is_empty : goal.returns-then-not-is_empty
returns-then-not-is_empty c = λ trees. changed_none trees (begins (term_of trees c.args.step.now.term)) c.args.step.now.changes.items (λ e. grind arith)
