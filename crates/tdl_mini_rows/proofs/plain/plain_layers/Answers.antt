use Rattle.std.proofs.Common.{arith}
use Rattle.tdl_mini_rows.proofs.PlainViews.{layers_none}
use Rattle.tdl_mini_rows.proofs.plain.plain_layers.Goals as goal

pub returns-in_default-2 : goal.returns-in_default-2
returns-in_default-2 c = λ trees. layers_none trees c.as_slice.result.now _ c.as_slice.ensures (λ e. omega arith)
