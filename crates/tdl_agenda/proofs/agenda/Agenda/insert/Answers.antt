use Rattle.std.proofs.Common.{◌≢◌}
use Rattle.tdl_agenda.proofs.Orders.{in_order-All}
use Rattle.tdl_agenda.proofs.agenda.Agenda.insert.Goals as goal

pub insert-requires-clause-order : goal.insert-requires-clause-order
insert-requires-clause-order c =
    let order = (rw (← c.self.view_is) at c.requires.order) in
    in_order-All (λ y. y.order ≢ c.args.item.order) c.self.inside.chains.slots.items order
