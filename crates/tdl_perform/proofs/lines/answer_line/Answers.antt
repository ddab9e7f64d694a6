use Rattle.tdl_perform.proofs.LineReplies.{called_line, refused_line, unmade_text}
use Rattle.tdl_perform.proofs.lines.answer_line.Goals as goal

pub returns-in-Ok-call-clause-answered : goal.returns-in-Ok-call-clause-answered
returns-in-Ok-call-clause-answered g c =
    called_line c.args.shared.now.1 c.args.pass.now c.call.new.pass c.args.line.now c.in-Ok.call c.in-Ok-call.reply c.reply_text.result
    c.in-Ok.ensures.ok.0 c.call.ensures.own c.call.ensures.legal c.in-Ok-call.ensures.ok c.reply_text.ensures

pub returns-in-Err-call-clause-answered : goal.returns-in-Err-call-clause-answered
returns-in-Err-call-clause-answered g c =
    refused_line c.args.shared.now.1 c.args.pass.now c.call.new.pass c.args.line.now c.in-Ok.call c.in-Err-call.refusal c.refusal_text.result
    c.in-Ok.ensures.ok.0 c.call.ensures.own c.in-Err-call.ensures.err c.refusal_text.ensures

pub returns-in-Err-clause-answered : goal.returns-in-Err-clause-answered
returns-in-Err-clause-answered g c =
    unmade_text c.args.shared.now.1 c.args.pass.now.number c.args.pass.now.seen c.args.line.now c.in-Err.unmade c.unmade_text.result c.in-Err.ensures.err
    c.unmade_text.ensures
