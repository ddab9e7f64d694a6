use Rattle.std.proofs.Common.{ap}
use Rattle.tdl_core.specs.Replies.{CoreState}
use Rattle.tdl_serve.proofs.PortEnds.{all_ended, few_ended}
use Rattle.tdl_serve.proofs.runs.serve.Goals as goal

pub endings_of-requires : goal.endings_of-requires
endings_of-requires g c =
    few_ended g.S.Source.left g.S.Source.faults g.K.Sink.held g.K.Sink.faults c.in_ok-core.core.tempo c.in-Some.field-0.machine.history c.gather.new.callers
    c.in-Some.ensures.did c.as_mut_slice.ensures.value c.deref.ensures.value c.requires.few

pub returns-in-Some-clause-ports : goal.returns-in-Some-clause-ports
returns-in-Some-clause-ports g c =
    all_ended g.S.Source.left g.S.Source.faults g.K.Sink.held g.K.Sink.faults c.in-Some.field-0.machine.history c.gather.new.callers
    c.in-Some.ensures.did (ap (λ (core : CoreState). core.tempo) c.in_ok-core.ensures) c.as_mut_slice.ensures.value c.deref.ensures.value c.endings_of.ensures
