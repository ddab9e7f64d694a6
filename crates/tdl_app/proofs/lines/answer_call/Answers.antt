use Rattle.tdl_app.proofs.LineAnswers.{refusal_so_far, reply_so_far}
use Rattle.tdl_app.proofs.lines.answer_call.Goals as goal

pub returns-in-Ok-clause-replied : goal.returns-in-Ok-clause-replied
returns-in-Ok-clause-replied g c =
    reply_so_far c.args.core.now c.apply.new.self c.args.who c.args.call c.in-Ok.reply c.send_reply.result _ c.accepted_calls_make_changes.ensures
    c.in-Ok.ensures.answers.ok c.send_reply.ensures.line c.send_reply.ensures.sent c.send_reply.ensures.err c.send_reply.ensures.counts

pub returns-in-Err-clause-replied : goal.returns-in-Err-clause-replied
returns-in-Err-clause-replied g c =
    refusal_so_far g.W.Wire.sent g.W.Wire.faults c.args.wires.now c.args.core.now c.apply.new.self c.args.who c.args.call c.in-Err.refusal
    c.refuse.result c.in-Err.ensures.answers.only c.in-Err.ensures.answers.err c.refuse.ensures.ok c.refuse.ensures.performers c.refuse.ensures.err
