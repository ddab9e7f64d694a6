use Rattle.std.proofs.Common.{◌-◌}
use Rattle.tdl_session.specs.Passes.{SamePass}
use Rattle.tdl_answer.specs.Account.{wires}
use Rattle.tdl_beats.specs.inside.Playing.{SteppingOn}
use Rattle.tdl_beats.proofs.plays.play_to.Given as goal

abbrev pub invariant-loop-place : goal.invariant-loop-place
invariant-loop-place g l = record {
  same : SamePass l.fn.pass l.pass;
  on : SteppingOn l.shared.1 l.fn.from l.place l.target l.fn.pass.seen l.pass.seen
      (wires g.W.Wire.sent g.W.Wire.faults l.fn.osc l.osc l.fn.midi l.midi);
}

abbrev pub decreases-loop-place : goal.decreases-loop-place
decreases-loop-place g l = l.target - l.place
