use Rattle.std.proofs.Common.{subst}
use Rattle.tdl_rows.specs.Built.{Built}
use Rattle.tdl_rows.specs.Lowers.{LowersTo}
use Rattle.tdl_expr.specs.Tree.{Tree}
use Rattle.tdl_rows.proofs.Pushes.{joined_row, fastcat-ids}
use Rattle.tdl_rows.proofs.joins.fastcat_of.Goals as goal

pub returns : goal.returns
returns c =
    let P : Built Tree → Type 0 = λ built. LowersTo c.args.table.now c.fastcat.new.table built c.fastcat.result in
    subst P (fastcat-ids c.args.table.now c.args.ids.now)
    (joined_row _ _ _ _ c.fastcat.result c.fastcat.ensures.ok c.fastcat.ensures.refused c.fastcat.ensures.only c.fastcat.ensures.err)
