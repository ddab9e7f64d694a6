use Rattle.std.proofs.Common.{◌≡◌, ◌-◌}
use Rattle.std.proofs.Common.{None as NoneOf}
use Rattle.tdl_agenda.proofs.Counts.{behind, counted}
use Rattle.tdl_agenda.proofs.Renumbering.{IsRenumbered}
use Rattle.tdl_agenda.proofs.chains.Chains.renumber.Given as goal

abbrev pub invariant-loop-slot : goal.invariant-loop-slot
invariant-loop-slot l = record {
  state : IsRenumbered l.fn.self.slots.items l.self.slots.items l.heads l.number;
  heads : l.self.heads ≡ l.fn.self.heads;
  tails : l.self.tails ≡ l.fn.self.tails;
  first : l.self.first ≡ l.fn.self.first;
  free : l.self.free ≡ l.fn.self.free;
  len : l.self.len ≡ l.fn.self.len;
}

abbrev pub decreases-loop-slot : goal.decreases-loop-slot
decreases-loop-slot l = counted (behind NoneOf) l.fn.self.slots.items - l.number
