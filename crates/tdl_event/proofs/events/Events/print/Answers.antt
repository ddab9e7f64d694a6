use Rattle.std.proofs.Common.{arith}
use Rattle.tdl_control.proofs.PrintLemmas.{on_err_always}
use Rattle.tdl_event.specs.Event.{line_of}
use Rattle.tdl_event.proofs.Lines.{stops_at}
use Rattle.tdl_event.proofs.events.Events.print.Goals as goal

pub returns-in_err-print-clause-err : goal.returns-in_err-print-clause-err
returns-in_err-print-clause-err c =
    rw (← c.self.view_is, ← c.deref-event-items.ensures.value)
    (on_err_always _
    (stops_at line_of _ c.loop-event.event-index c.event-item.result _ _ _
    (omega arith) c.event-item.is c.loop-event.invariant c.in_err-print.ensures.err))
