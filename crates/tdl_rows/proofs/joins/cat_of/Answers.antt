use Rattle.std.proofs.Common.{subst}
use Rattle.tdl_rows.specs.Built.{Built}
use Rattle.tdl_rows.specs.Lowers.{LowersTo}
use Rattle.tdl_expr.specs.Tree.{Tree}
use Rattle.tdl_rows.proofs.Pushes.{joined_row, cat-ids}
use Rattle.tdl_rows.proofs.joins.cat_of.Goals as goal

pub returns : goal.returns
returns c =
    let P : Built Tree → Type 0 = λ built. LowersTo c.args.table.now c.cat.new.table built c.cat.result in
    subst P (cat-ids c.args.table.now c.args.ids.now)
    (joined_row _ _ _ _ c.cat.result c.cat.ensures.ok c.cat.ensures.refused c.cat.ensures.only c.cat.ensures.err)
