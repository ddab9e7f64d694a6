use Rattle.std.proofs.Common.{take}
use Rattle.tdl_event.specs.Event.{print_of}
use Rattle.tdl_answer.specs.Account.{account}
use Rattle.tdl_app.specs.inside.EventLines.{Streams}
use Rattle.tdl_app.proofs.event_lines.add_lines.Given as goal

abbrev pub invariant-loop-i : goal.invariant-loop-i
invariant-loop-i g l =
    Streams (print_of (take l.i l.events)) l.initial.waiting l.waiting (account g.K.Sink.held g.K.Sink.faults l.initial.out l.out)
