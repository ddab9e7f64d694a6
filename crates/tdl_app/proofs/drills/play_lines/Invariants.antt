use Rattle.std.proofs.Common.{length}
use Rattle.tdl_app.specs.inside.Drilling.{PlaysSoFar}
use Rattle.tdl_app.specs.inside.Wiring.{SameWires, wires_of}
use Rattle.tdl_app.proofs.drills.play_lines.Given as goal

abbrev pub invariant-lines : goal.invariant-lines
invariant-lines g l =
    PlaysSoFar l.fn.core.tempo l.fn.lines l.lines l.core (wires_of g.W.Wire.sent g.W.Wire.faults l.fn.wires l.wires) × SameWires l.fn.wires l.wires

abbrev pub decreases-lines : goal.decreases-lines
decreases-lines g l = length l.lines
