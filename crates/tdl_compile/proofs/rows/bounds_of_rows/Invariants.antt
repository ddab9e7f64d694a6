use Rattle.std.proofs.Common.{◌≡◌, length}
use Rattle.tdl_expr.specs.Rows.{trees_of}
use Rattle.tdl_compile.specs.inside.Sizes.{AllStand}
use Rattle.tdl_compile.proofs.rows.bounds_of_rows.Given as goal

abbrev pub invariant-loop-index : goal.invariant-loop-index
invariant-loop-index l = (length l.rows.items ≡ l.index) × AllStand l.rows.items (trees_of l.table)
