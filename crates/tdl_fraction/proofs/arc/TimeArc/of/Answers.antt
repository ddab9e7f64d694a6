use Rattle.std.proofs.Common.{sym}
use Rattle.tdl_fraction.proofs.Arcs.{arc_between-some, arc_between-none}
use Rattle.tdl_fraction.proofs.arc.TimeArc.of.Goals as goal

pub invariant_of-result : goal.invariant_of-result
invariant_of-result c =
    let e = c.is_less.ensures in
    record { ordered = e.less.0 c.if-is_less.true; start_in_range = e.in_range.0; stop_in_range = e.in_range.1 }

pub returns-then-is_less-clause-value : goal.returns-then-is_less-clause-value
returns-then-is_less-clause-value c = sym (arc_between-some _ _ (c.is_less.ensures.less.0 c.if-is_less.true))

pub returns-else-is_less-clause-value : goal.returns-else-is_less-clause-value
returns-else-is_less-clause-value c =
    sym (arc_between-none _ _ (c.is_less.ensures.not_less.0 c.if-is_less.false))
