use Rattle.std.proofs.Common.{◌≡◌, [], ◌-◌, ◌⊎◌}
use Rattle.tdl_event.specs.Event.{print_of}
use Rattle.tdl_expr.specs.Rows.{tree_at}
use Rattle.tdl_meaning.specs.Meaning.{cyc}
use Rattle.tdl_answer.specs.Account.{account}
use Rattle.tdl_app.specs.inside.EventLines.{Streams}
use Rattle.tdl_app.specs.inside.Batches.{front_events, batch_events}
use Rattle.tdl_app.proofs.event_lines.put_batches.Given as goal

abbrev pub invariant-loop-k : goal.invariant-loop-k
invariant-loop-k g l = record {
  lines : Streams (print_of (front_events (cyc (tree_at l.program.nodes l.program.root)) l.batches l.k)) [] l.waiting
      (account g.K.Sink.held g.K.Sink.faults l.initial.out l.out);
  before : (l.k ≡ 0) ⊎ (l.events ≡ batch_events (cyc (tree_at l.program.nodes l.program.root)) l.batches (l.k - 1));
}
