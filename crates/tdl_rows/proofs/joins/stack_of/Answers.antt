use Rattle.std.proofs.Common.{subst}
use Rattle.tdl_rows.specs.Built.{Built}
use Rattle.tdl_rows.specs.Lowers.{LowersTo}
use Rattle.tdl_expr.specs.Tree.{Tree}
use Rattle.tdl_rows.proofs.Pushes.{joined_row, stack-ids}
use Rattle.tdl_rows.proofs.joins.stack_of.Goals as goal

pub returns : goal.returns
returns c =
    let P : Built Tree → Type 0 = λ built. LowersTo c.args.table.now c.stack.new.table built c.stack.result in
    subst P (stack-ids c.args.table.now c.args.ids.now)
    (joined_row _ _ _ _ c.stack.result c.stack.ensures.ok c.stack.ensures.refused c.stack.ensures.only c.stack.ensures.err)
