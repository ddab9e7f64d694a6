use Rattle.std.proofs.Common.{◌+◌, length}
use Rattle.tdl_answer.specs.Account.{account}
use Rattle.tdl_lines.proofs.PromptLemmas.{Talking}
use Rattle.tdl_app.specs.inside.Progress.{Progress}
use Rattle.tdl_app.specs.inside.Wiring.{SameWires, wires_of}
use Rattle.tdl_app.proofs.play.answer_lines.Given as goal

abbrev pub invariant-lines : goal.invariant-lines
invariant-lines g l =
    Progress l.fn.core.tempo l.reader l.core (account g.T.Source.left g.T.Source.faults l.fn.talk l.talk)
    (account g.T.Sink.held g.T.Sink.faults l.fn.talk l.talk) (wires_of g.W.Wire.sent g.W.Wire.faults l.fn.wires l.wires)
    × (SameWires l.fn.wires l.wires × Talking g.T.Source.gave g.T.Sink.took l.reader l.fn.talk l.talk)

abbrev pub decreases-lines : goal.decreases-lines
decreases-lines g l = l.reader.left + length l.reader.pending
