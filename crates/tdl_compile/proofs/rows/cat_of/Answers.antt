use Rattle.tdl_expr.specs.Rows.{in_order}
use Rattle.tdl_compile.proofs.rows.cat_of.Goals as goal

pub returns : goal.returns
returns c = λ trees all valid. c.cat.ensures (in_order trees c.args.ids.now) (c.group_of.ensures trees all valid)
