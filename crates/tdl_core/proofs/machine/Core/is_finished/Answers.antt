use Rattle.std.proofs.Common.{◌∙◌, sym}
use Rattle.tdl_core.proofs.OwnFinish.{own_finish}
use Rattle.tdl_core.proofs.machine.Core.is_finished.Goals as goal

pub returns-clause-own : goal.returns-clause-own
returns-clause-own c =
    rw (← c.self.view_is) (c.self.invariant.counted.finished_is ∙ sym (own_finish c.self.inside.history.entries c.self.invariant.legal))
