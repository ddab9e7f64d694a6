use Rattle.tdl_expr.proofs.ValidRows.{valid_row}
use Rattle.tdl_expr.proofs.tables.Table.validity_law.Goals as goal

pub returns : goal.returns
returns c = valid_row
