use Rattle.tdl_expr.proofs.ValidRows.{valid_row}
use Rattle.tdl_meaning.proofs.PlainLemmas.{may_query}
use Rattle.tdl_meaning.proofs.evaluator.plain.Goals as goal

pub in_arc-requires-clause-may : goal.in_arc-requires-clause-may
in_arc-requires-clause-may c =
    may_query _ c.args.arc (valid_row c.args.table.now c.args.root c.table_law.ensures) c.requires.limits c.requires.arc
