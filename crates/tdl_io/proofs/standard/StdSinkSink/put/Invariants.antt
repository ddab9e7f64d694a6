use Rattle.std.proofs.Common.{◌≡◌, length}
use Rattle.tdl_io.specs.Standard.{WroteUpTo}
use Rattle.tdl_io.proofs.standard.StdSinkSink.put.Given as goal

abbrev pub invariant-loop-rest : goal.invariant-loop-rest
invariant-loop-rest g l = record {
  wrote : WroteUpTo (g.W.Write.contents l.initial.self.writer.device.writer) (g.W.Write.contents l.self.writer.device.writer) l.piece l.rest;
  no_fault : l.self.faults ≡ l.initial.self.faults;
}

abbrev pub decreases-loop-rest : goal.decreases-loop-rest
decreases-loop-rest g l = length l.rest
