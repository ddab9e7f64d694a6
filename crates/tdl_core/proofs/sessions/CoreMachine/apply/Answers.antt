use Rattle.tdl_core.proofs.Machines.{machine_err, machine_fixed, machine_ok}
use Rattle.tdl_core.proofs.sessions.CoreMachine.apply.Goals as goal

pub returns-clause-fixed : goal.returns-clause-fixed
returns-clause-fixed c = machine_fixed _ _ _ _ _ c.apply.ensures.answers

pub returns-clause-ok : goal.returns-clause-ok
returns-clause-ok c = machine_ok _ _ _ _ _ c.apply.ensures.answers

pub returns-clause-err : goal.returns-clause-err
returns-clause-err c = machine_err _ _ _ _ _ c.apply.ensures.answers
