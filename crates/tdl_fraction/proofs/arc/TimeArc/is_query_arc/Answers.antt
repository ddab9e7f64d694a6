use Rattle.tdl_fraction.proofs.UnitCounts.{query_arc_test}
use Rattle.tdl_fraction.proofs.arc.TimeArc.is_query_arc.Goals as goal

pub returns-then-is_within_cycles : goal.returns-then-is_within_cycles
returns-then-is_within_cycles c =
    query_arc_test c.args.self c.is_within_cycles.result c.is_on_grid.result c.is_within_cycles.ensures.arc c.if-is_within_cycles.true
    c.is_within_cycles.ensures.within c.is_on_grid.ensures
