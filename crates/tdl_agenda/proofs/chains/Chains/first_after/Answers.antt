use Rattle.std.proofs.Common.{◌∙◌}
use Rattle.tdl_agenda.proofs.Least.{lowest_first, stays_in_chain}
use Rattle.tdl_agenda.proofs.chains.Chains.first_after.Goals as goal

pub returns-then-is_in_cycle_of : goal.returns-then-is_in_cycle_of
returns-then-is_in_cycle_of c =
    stays_in_chain c.requires.linked c.in-Some.slot c.args.item.now c.item.result (c.requires.next ∙ c.in-Some.is) c.requires.least c.item.ensures
    (c.is_in_cycle_of.ensures.0 c.if-is_in_cycle_of.true)

pub returns-else-is_in_cycle_of : goal.returns-else-is_in_cycle_of
returns-else-is_in_cycle_of c = lowest_first c.requires.linked c.lowest.result c.lowest.ensures

pub returns-in-None : goal.returns-in-None
returns-in-None c = lowest_first c.requires.linked c.lowest-in-None.result c.lowest-in-None.ensures
