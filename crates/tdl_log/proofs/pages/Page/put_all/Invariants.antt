use Rattle.std.proofs.Common.{◌≤◌, take}
use Rattle.tdl_log.specs.inside.Pages.{Written}
use Rattle.tdl_log.specs.inside.Pieces.{one_after_another}
use Rattle.tdl_log.proofs.pages.Page.put_all.Given as goal

abbrev pub invariant-loop-piece : goal.invariant-loop-piece
invariant-loop-piece g l = record {
  written : Written (g.K.Sink.held l.initial.sink) (g.K.Sink.held l.sink) l.initial.self l.self (one_after_another (take l.piece-index l.pieces));
  kept : g.K.Sink.faults l.initial.sink ≤ g.K.Sink.faults l.sink;
}
