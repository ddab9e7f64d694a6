use Rattle.tdl_expr.specs.Tree.{Cat, Rev, empty, child}
use Rattle.tdl_expr.specs.Rows.{tree_at}
use Rattle.tdl_rows.specs.Built.{one_row}
use Rattle.tdl_rows.specs.Stays.{row_after}
use Rattle.tdl_rows.proofs.Gained.{exit_refused, Refused-first}
use Rattle.tdl_combinator.proofs.Sequels.{next_row}
use Rattle.tdl_combinator.proofs.Turns.{rows_two}
use Rattle.tdl_combinator.proofs.in_time.palindrome_of.Goals as goal

pub cat_of-requires-clause-rows : goal.cat_of-requires-clause-rows
cat_of-requires-clause-rows c = rows_two _ _ _ (row_after c.in_ok-turned.ensures.gains c.args.child c.requires) c.in_ok-turned.ensures.row

pub returns : goal.returns
returns c = next_row _ (one_row 1 (Rev (tree_at c.args.table.now c.args.child))) (λ r p. one_row 2 (Cat (child p (child r empty)))) c.args.child
    c.requires c.in_ok-turned.ensures c.cat_of.result c.cat_of.ensures

pub returns-in_err-turned : goal.returns-in_err-turned
returns-in_err-turned c = exit_refused _ _ c.from_residual.result c.from_residual.ensures.1 (Refused-first _ c.in_err-turned.ensures)
