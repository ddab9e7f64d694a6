use Rattle.std.proofs.Common.{◌-◌}
use Rattle.tdl_session.specs.Passes.{SamePass}
use Rattle.tdl_answer.specs.Account.{wires}
use Rattle.tdl_beats.specs.inside.Playing.{BeatingOn}
use Rattle.tdl_beats.proofs.plays.play_beats.Given as goal

abbrev pub invariant-loop-place : goal.invariant-loop-place
invariant-loop-place g l = record {
  same : SamePass l.fn.pass l.pass;
  on : BeatingOn l.shared.1 l.goal l.cycles (g.C.Clock.beats l.fn.clock) (g.C.Clock.beats l.clock) l.place l.last (g.C.Clock.last l.clock)
      l.fn.pass.seen l.pass.seen (wires g.W.Wire.sent g.W.Wire.faults l.fn.osc l.osc l.fn.midi l.midi);
}

abbrev pub decreases-loop-place : goal.decreases-loop-place
decreases-loop-place g l = l.goal - l.last
