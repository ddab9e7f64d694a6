use Rattle.std.proofs.Common.{ℕ, ◌≤◌, List, arith}
use Rattle.std.specs.List.{AllByRecursion}
use Rattle.tdl_order.proofs.EachItem.{All-weaker}
use Rattle.tdl_agenda.specs.declared.items.Item.{Item}
use Rattle.tdl_agenda.specs.Agenda.{inserted}
use Rattle.tdl_agenda.proofs.Orders.{All-inserted}
use Rattle.tdl_value_tests.proofs.agenda.Numbered.put.Goals as goal

abbrev IsBetween : ℕ → ℕ → Item → Type 0
IsBetween low high item = (low ≤ item.order) × (item.order ≤ high)

All-between : (low high low_new high_new : ℕ) (x : Item) (items : List Item) → low_new ≤ low → high ≤ high_new → IsBetween low_new high_new x
    → AllByRecursion (IsBetween low high) items → AllByRecursion (IsBetween low_new high_new) (inserted x items)
All-between low high low_new high_new x items lower higher here all =
    All-inserted (IsBetween low_new high_new) x items here
    (All-weaker (IsBetween low high) (IsBetween low_new high_new) (λ y b. let from = b.0 in let to = b.1 in (omega arith, omega arith)) items all)

pub invariant_of-self-2 : goal.invariant_of-self-2
invariant_of-self-2 c =
    let min = c.min-self-inside.ensures in
    let max = c.max-self-inside.ensures in
    rw (c.insert.ensures.items, c.in_ok-reserve.ensures.items)
    (All-between c.self.inside.low c.self.inside.high c.min-self-inside.result c.max-self-inside.result c.args.item c.self.inside.agenda.items (omega arith)
    (omega arith) (omega arith, omega arith) c.self.invariant)
