use Rattle.std.proofs.Common.{Ok}
use Rattle.tdl_score.specs.History.{entries_of}
use Rattle.tdl_app.proofs.LineAnswers.{text_so_far, unmade_so_far}
use Rattle.tdl_app.proofs.lines.answer_performer.Goals as goal

pub answer_call-requires : goal.answer_call-requires
answer_call-requires g c = c.in-Ok.ensures.ok.1 c.args.who (entries_of c.args.who c.args.core.now.history) c.requires

pub returns-in-Ok-clause-replied : goal.returns-in-Ok-clause-replied
returns-in-Ok-clause-replied g c =
    text_so_far c.args.core.now c.answer_call.new.core c.args.who c.args.text.now c.in-Ok.call c.answer_call.result _ c.in-Ok.ensures.ok.0
    c.answer_call.ensures.replied

pub returns-in-Err-clause-replied : goal.returns-in-Err-clause-replied
returns-in-Err-clause-replied g c =
    unmade_so_far g.W.Wire.sent g.W.Wire.faults c.args.wires.now c.args.core.now c.args.who c.args.text.now c.in-Err.unmade (Ok c.unmade.result)
    c.in-Err.ensures.err c.unmade.ensures tt
