use Rattle.std.proofs.Common.{refl}
use Rattle.tdl_app.proofs.ScriptEnds.{ends_put}
use Rattle.tdl_app.proofs.Unput.{end_keeps, end_talks, ends_input_on}
use Rattle.tdl_app.proofs.play.play_script.Goals as goal

pub returns-in-Ok-clause-ends : goal.returns-in-Ok-clause-ends
returns-in-Ok-clause-ends g c =
    let t = g.T.Source in
    let put = c.put_end in
    let a = c.answer_lines.new.talk in
    let left = end_keeps g.met.T.Talk.apart a put.new.out put.result put.ensures.put put.ensures.unput in
    rw c.port_of_end.ensures
    (ends_input_on t.left t.faults c.args.talk.now a put.new.out left c.answer_lines.new.core
    (ends_put c.in-Ok.end c.put_end.result (record { told = refl; faults = refl }) c.in-Ok.ensures.ok
    c.put_end.ensures.ok c.put_end.ensures.end c.put_end.ensures.err c.put_end.ensures.kept))

pub returns-in-Ok-clause-prompt : goal.returns-in-Ok-clause-prompt
returns-in-Ok-clause-prompt g c = end_talks c.put_end.result c.in-Ok.ensures.goes c.put_end.ensures.put c.put_end.ensures.unput

pub returns-in-Err-clause-ends : goal.returns-in-Err-clause-ends
returns-in-Err-clause-ends g c = rw c.port_of_stop.ensures c.in-Err.ensures.err
