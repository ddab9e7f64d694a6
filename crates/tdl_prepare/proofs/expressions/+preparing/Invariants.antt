use Rattle.std.proofs.Common.{take}
use Rattle.tdl_rows.specs.inside.Views.{LowersIds}
use Rattle.tdl_prepare.specs.inside.Parts.{part_rows_built, rows_built}
use Rattle.tdl_prepare.proofs.expressions.+preparing.Given as goal

abbrev pub invariant-rows_of-loop-expr : goal.invariant-rows_of-loop-expr
invariant-rows_of-loop-expr l = LowersIds l.initial.table l.table (rows_built (take l.expr-index l.exprs)) l.ids.items

abbrev pub invariant-part_rows-loop-part : goal.invariant-part_rows-loop-part
invariant-part_rows-loop-part l = LowersIds l.initial.table l.table (part_rows_built (take l.part-index l.parts)) l.ids.items
