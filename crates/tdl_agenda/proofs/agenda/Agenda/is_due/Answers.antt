use Rattle.std.proofs.lemmas.Bool.{OnFalse_from}
use Rattle.tdl_agenda.proofs.Orders.{from_first}
use Rattle.tdl_agenda.proofs.agenda.Agenda.is_due.Goals as goal

pub returns-in-Some-clause-not_due : goal.returns-in-Some-clause-not_due
returns-in-Some-clause-not_due c = OnFalse_from c.is_less.result _ (λ later.
    from_first c.args.time c.in-Some.item.now c.args.self.now.items c.in-Some.ensures.first c.in-Some.ensures.sorted (c.is_less.ensures.not_less.0 later))
