use Rattle.tdl_expr.proofs.OlderRows.{tree_at-append, KeepsRows-trans, in_order-older, weighted-older, tree_of-older}
use Rattle.tdl_expr.proofs.tables.Table.growth_laws.Goals as goal

pub returns : goal.returns
returns c = record { row = tree_at-append; growths = KeepsRows-trans; rows = in_order-older; steps = weighted-older; node = tree_of-older }
