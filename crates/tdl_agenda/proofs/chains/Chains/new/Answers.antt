use Rattle.std.proofs.Common.{refl}
use Rattle.tdl_agenda.proofs.Keeping.{empty_linked}
use Rattle.tdl_agenda.proofs.Tails.{empty_tails}
use Rattle.tdl_agenda.proofs.chains.Chains.new.Goals as goal

pub returns-clause-linked : goal.returns-clause-linked
returns-clause-linked c = empty_linked c.new.result.items 64 c.new.ensures.items refl

pub returns-clause-tails : goal.returns-clause-tails
returns-clause-tails c = empty_tails c.new.result.items 64 c.new.ensures.items refl
