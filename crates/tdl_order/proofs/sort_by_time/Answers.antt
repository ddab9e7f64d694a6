use Rattle.std.proofs.Common.{rules, refl, sym, subst}
use Rattle.tdl_order.specs.TimeOrder.{Rises}
use Rattle.tdl_order.proofs.InOrder.{by_time-rises}
use Rattle.tdl_order.proofs.ByTimes.{by_time-from_sort_by}
use Rattle.tdl_order.proofs.sort_by_time.Goals as goal

pub returns-then-is_in_order-clause-ok : goal.returns-then-is_in_order-clause-ok
returns-then-is_in_order-clause-ok g c =
    let time = g.K.TimeOf.time_of in
    sym (by_time-rises time c.args.items.now.items (subst (Rises time) c.deref.ensures.value (c.if-is_in_order.ensures.0 refl)))

pub returns-clause-ok : goal.returns-clause-ok
returns-clause-ok g c =
    by_time-from_sort_by g.K.TimeOf.time_of c.args.items.now.items c.sort_by.new.self.items c.in_ok-sort_by.ensures.sorted c.in_ok-sort_by.ensures.stable
    (λ a r f k. search rules)
