use Rattle.std.proofs.Common.{rules}
use Rattle.tdl_session.specs.Passes.{pass_of}
use Rattle.tdl_session.proofs.Passes.{may_be_asked, unchanged, is_called, is_refused}
use Rattle.tdl_session.proofs.pass.Shared.call.Goals as goal

pub apply-answer-requires : goal.apply-answer-requires
apply-answer-requires g c = may_be_asked g.M.Chronicle.by c.args.pass.now g.M.Machine.may c.pass.inside.number _ c.take-machine.ensures.seen.0 c.args.call
    (search rules) (search rules) (search rules) (search rules) c.requires.may

pub returns-clause-ok : goal.returns-clause-ok
returns-clause-ok g c = is_called g.M.Chronicle.by c.args.pass.now (pass_of c.give.new.seat) c.args.self.now.1 _ c.args.call c.pass.inside.number _ _
    c.take-machine.ensures.seen.0 g.M.Machine.adds c.apply-answer.result
    (search rules) (search rules) (search rules) (search rules) (search rules) (search rules) (search rules) c.apply-answer.ensures.ok

pub returns-clause-err : goal.returns-clause-err
returns-clause-err g c = let M = g.M.Chronicle in is_refused M.by c.args.pass.now (pass_of c.give.new.seat) c.args.self.now.1
    (M.fixed c.take-machine.result) c.args.call c.pass.inside.number (M.history c.take-machine.result) (M.history c.apply-answer.new.self)
    c.take-machine.ensures.seen.0 g.M.Machine.refuses c.apply-answer.result
    (search rules) (search rules) (search rules) (search rules) (search rules) (search rules) (search rules)
    (unchanged M.history _ _ _ c.apply-answer.result c.apply-answer.ensures.err)
