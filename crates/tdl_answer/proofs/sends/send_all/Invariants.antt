use Rattle.std.proofs.Common.{◌≤◌, take}
use Rattle.tdl_io.specs.Told.{GainedExactly}
use Rattle.tdl_answer.proofs.sends.send_all.Given as goal

abbrev pub invariant-loop-i : goal.invariant-loop-i
invariant-loop-i g l = record {
  gained : GainedExactly (g.W.Wire.sent l.initial.wire) (g.W.Wire.sent l.wire) (take l.i l.packets);
  kept : g.W.Wire.faults l.initial.wire ≤ g.W.Wire.faults l.wire;
}
