use Rattle.std.proofs.Common.{◌≡◌, ◌++◌, take}
use Rattle.tdl_event.specs.Event.{print_of}
use Rattle.tdl_event.proofs.events.Events.print.Given as goal

abbrev pub invariant-loop-event : goal.invariant-loop-event
invariant-loop-event l = l.out ≡ l.fn.out ++ print_of (take l.event-index l.event-items)
