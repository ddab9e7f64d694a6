use Rattle.std.proofs.Common.{◌≡◌, ◌-◌, ◌≤◌, length}
use Rattle.tdl_agenda.specs.Slots.{in_order}
use Rattle.tdl_agenda.specs.Linked.{AreLinked, HasTails, IsFirst}
use Rattle.tdl_agenda.proofs.chains.Chains.reserve.Given as goal

abbrev pub invariant-loop-self : goal.invariant-loop-self
invariant-loop-self l = record {
  linked : AreLinked l.self;
  first : IsFirst l.self.slots.items l.self.first;
  tails : HasTails l.self.slots.items l.self.tails;
  items : in_order l.self.slots.items ≡ in_order l.fn.self.slots.items;
  spare : length l.fn.self.slots.items - l.fn.self.len ≤ length l.self.slots.items - l.self.len;
}

abbrev pub decreases-loop-self : goal.decreases-loop-self
decreases-loop-self l = l.n - (length l.self.slots.items - l.self.len)
