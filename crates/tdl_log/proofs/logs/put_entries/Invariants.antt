use Rattle.std.proofs.Common.{◌≤◌, take}
use Rattle.tdl_log.specs.inside.Pages.{Written}
use Rattle.tdl_log.specs.inside.Pieces.{entries_text}
use Rattle.tdl_log.proofs.logs.put_entries.Given as goal

abbrev pub invariant-loop-i : goal.invariant-loop-i
invariant-loop-i g l = record {
  written : Written (g.K.Sink.held l.initial.sink) (g.K.Sink.held l.sink) l.initial.page l.page (entries_text (take l.i l.history.entries));
  kept : g.K.Sink.faults l.initial.sink ≤ g.K.Sink.faults l.sink;
}
