use Rattle.tdl_session.proofs.Records.{told_answer}
use Rattle.tdl_session.proofs.told.tell.Goals as goal

pub returns-clause-told : goal.returns-clause-told
returns-clause-told g c = λ told h. told_answer g.M.Chronicle.by g.M.Machine.adds c.args.shared.now.1 c.args.pass.now c.call.new.pass told c.call.ensures.own
    (λ x es. g.M.Machine.refuses c.args.shared.now.1 es c.args.pass.now.number c.args.call x) c.args.call c.call.result c.call.ensures.ok c.call.ensures.err h
