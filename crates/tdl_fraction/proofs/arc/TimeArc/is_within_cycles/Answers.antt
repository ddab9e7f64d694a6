use Rattle.tdl_fraction.proofs.UnitCounts.{within_test}
use Rattle.tdl_fraction.proofs.arc.TimeArc.is_within_cycles.Goals as goal

pub returns-then-is_at_most-clause-within : goal.returns-then-is_at_most-clause-within
returns-then-is_at_most-clause-within c =
    within_test c.args.self c.whole.result c.whole-then-is_at_most.result c.start.result c.stop.result c.is_at_most.result c.is_at_most-then-is_at_most.result
    c.whole.ensures c.start.ensures.value c.stop.ensures.value c.whole-then-is_at_most.ensures c.if-is_at_most.true c.is_at_most.ensures
    c.is_at_most-then-is_at_most.ensures
