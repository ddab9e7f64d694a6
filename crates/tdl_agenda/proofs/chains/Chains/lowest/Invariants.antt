use Rattle.tdl_agenda.proofs.Least.{IsScanned}
use Rattle.tdl_agenda.proofs.chains.Chains.lowest.Given as goal

abbrev pub invariant-loop-head : goal.invariant-loop-head
invariant-loop-head l = IsScanned l.self.slots.items l.heads l.head-index l.lowest
