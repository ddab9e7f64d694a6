use Rattle.std.proofs.Common.{◌+◌, length}
use Rattle.tdl_lines.proofs.PromptLemmas.{Talking}
use Rattle.tdl_session.specs.Passes.{SamePass}
use Rattle.tdl_answer.specs.Account.{account}
use Rattle.tdl_perform.specs.inside.Serving.{Serving}
use Rattle.tdl_perform.proofs.performing.serve_lines.Given as goal

abbrev pub invariant-lines : goal.invariant-lines
invariant-lines g l =
    Serving l.fn.shared.1 l.fn.pass.number l.reader l.pass.seen (account g.T.Source.left g.T.Source.faults l.fn.port l.port)
    (account g.T.Sink.held g.T.Sink.faults l.fn.port l.port)
    × (SamePass l.fn.pass l.pass × Talking g.T.Source.gave g.T.Sink.took l.reader l.fn.port l.port)

abbrev pub decreases-lines : goal.decreases-lines
decreases-lines g l = l.reader.left + length l.reader.pending
