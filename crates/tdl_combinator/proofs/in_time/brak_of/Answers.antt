use Rattle.std.proofs.Common.{pos, arith}
use Rattle.tdl_fraction.proofs.Ranges.{InRange-frac}
use Rattle.tdl_expr.specs.declared.rounds.Test.TheVariants.{Equal}
use Rattle.tdl_expr.specs.Tree.{Tree, Silence, TimeCat, When, Shift, none, step}
use Rattle.tdl_expr.specs.Rows.{tree_at}
use Rattle.tdl_rows.specs.Built.{Built, one_row, ◌▸◌}
use Rattle.tdl_rows.specs.Stays.{row_after}
use Rattle.tdl_rows.proofs.Gained.{exit_refused, Refused-first, Refused-append, LowersTo-same}
use Rattle.tdl_combinator.proofs.Sequels.{next_row}
use Rattle.tdl_combinator.proofs.Turns.{rows_two, braked_is}
use Rattle.tdl_combinator.proofs.in_time.brak_of.Goals as goal

pub fastcat_of-requires-clause-rows : goal.fastcat_of-requires-clause-rows
fastcat_of-requires-clause-rows c = rows_two _ _ _ (row_after c.in_ok-rest.ensures.gains c.args.child c.requires) c.in_ok-rest.ensures.row

pub returns-in_err-rest : goal.returns-in_err-rest
returns-in_err-rest c = exit_refused _ _ c.from_residual.result c.from_residual.ensures.1 (Refused-first _ c.in_err-rest.ensures)

pub returns-in_err-halves : goal.returns-in_err-halves
returns-in_err-halves c = exit_refused _ _ c.from_residual-in_err-halves.result c.from_residual-in_err-halves.ensures.1
    (Refused-append c.in_ok-rest.ensures.gains (Refused-first _ c.in_err-halves.ensures))

pub returns-in_err-later : goal.returns-in_err-later
returns-in_err-later c = exit_refused _ _ c.from_residual-in_err-later.result c.from_residual-in_err-later.ensures.1
    (Refused-append c.in_ok-rest.ensures.gains (Refused-append c.in_ok-halves.ensures.gains (Refused-first _ c.in_err-later.ensures)))

pub returns : goal.returns
returns c =
    let first = c.in_ok-rest.ensures in
    let second = c.in_ok-halves.ensures in
    let by = c.fraction.result in
    let last : Tree → Tree → Built Tree = λ u p. one_row 2 (When 2 (Equal 1) u p) in
    let moved : Tree → Tree → Built Tree = λ t p. one_row 1 (Shift by t) ▸ λ u. last u p in
    let squeezed : Tree → Tree → Built Tree = λ s p. one_row 2 (TimeCat (step 1 p (step 1 s none))) ▸ λ t. moved t p in
    let in_first = row_after first.gains c.args.child c.requires in
    let in_second = row_after second.gains c.args.child in_first in
    LowersTo-same _ _ _ _ c.when.result (braked_is by (tree_at c.args.table.now c.args.child) c.fraction.ensures)
    (next_row _ (one_row 0 Silence) squeezed c.args.child c.requires first c.when.result
    (next_row _ _ moved c.args.child in_first second c.when.result
    (next_row _ _ last c.args.child in_second c.in_ok-later.ensures c.when.result c.when.ensures)))

pub fraction-requires-clause-in_range : goal.fraction-requires-clause-in_range
fraction-requires-clause-in_range c = InRange-frac (pos 1) 4 (omega arith) (omega arith) (omega arith)
