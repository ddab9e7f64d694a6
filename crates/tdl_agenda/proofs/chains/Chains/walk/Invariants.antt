use Rattle.tdl_agenda.specs.inside.Steps.{IsWalked, low_of}
use Rattle.tdl_agenda.proofs.Walk.{more}
use Rattle.tdl_agenda.proofs.chains.Chains.walk.Given as goal

abbrev pub invariant-loop-after : goal.invariant-loop-after
invariant-loop-after l = IsWalked l.self.slots.items l.item l.before l.after

abbrev pub decreases-loop-after : goal.decreases-loop-after
decreases-loop-after l = more (low_of l.self.slots.items l.before) l.self.slots.items
