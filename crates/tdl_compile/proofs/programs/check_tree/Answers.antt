use Rattle.std.proofs.Common.{sym, subst}
use Rattle.tdl_expr.specs.Rows.{tree_at, trees_of}
use Rattle.tdl_expr.proofs.ValidRows.{valid_row}
use Rattle.tdl_compile.specs.inside.Sizes.{AllStand}
use Rattle.tdl_compile.proofs.Grids.{kept_count, kept_grids, kept_unit}
use Rattle.tdl_compile.proofs.programs.check_tree.Goals as goal

pub returns-clause-grids : goal.returns-clause-grids
returns-clause-grids c =
    let known = c.in_ok-rows.ensures in
    kept_grids c.args.table.now _ known.known known.rows

pub returns-clause-unit : goal.returns-clause-unit
returns-clause-unit c =
    let known = c.in_ok-rows.ensures.known in
    let trees = trees_of c.args.table.now in
    kept_unit (tree_at c.args.table.now c.args.root) c.bounds_at-count.result (valid_row c.args.table.now c.args.root known.table)
    (c.bounds_at-count.ensures trees (subst (λ rows. AllStand rows trees) (sym c.deref.ensures.value) known.stand))
    (c.extent_up_to-extent.ensures.kept_fine c.if-extent-gt-MAX_FINE.false) _ c.least_multiple-unit.ensures.value

pub returns-clause-count : goal.returns-clause-count
returns-clause-count c =
    let known = c.in_ok-rows.ensures.known in
    let trees = trees_of c.args.table.now in
    kept_count (tree_at c.args.table.now c.args.root) c.bounds_at-count.result
    (c.bounds_at-count.ensures trees (subst (λ rows. AllStand rows trees) (sym c.deref.ensures.value) known.stand))
    c.if-load-gt-MAX_LOAD.false
