use Rattle.std.proofs.Common.{[], ◌∷◌, take, sym, subst, arith}
use Rattle.tdl_meaning.proofs.Lists.{each_contained}
use Rattle.tdl_score.specs.Score.{IsRowOf}
use Rattle.tdl_score.specs.inside.Dues.{Gained}
use Rattle.tdl_score.proofs.Dues.{gained_more, take_item}
use Rattle.tdl_score.proofs.due.push_rows.Goals as goal

pub push_row-requires-clause-known : goal.push_row-requires-clause-known
push_row-requires-clause-known c =
    each_contained (IsRowOf c.args.cycle) c.args.rows.now c.row-item.result c.requires.known (c.loop-row.row-index, omega arith, sym c.row-item.is)

pub loop-row-preserved : goal.loop-row-preserved
loop-row-preserved c =
    let rows = c.args.rows.now in
    let i = c.loop-row.row-index in
    subst (Gained c.args.tempo c.args.due.now c.push_row.new.due) (sym (take_item rows i c.row-item.result (omega arith) c.row-item.is))
    (gained_more c.args.tempo c.args.due.now c.loop-row.due c.push_row.new.due (take i rows) (c.row-item.result ∷ []) c.loop-row.invariant
    c.in_ok-push_row.ensures)
