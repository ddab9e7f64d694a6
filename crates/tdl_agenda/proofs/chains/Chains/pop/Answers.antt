use Rattle.std.proofs.Common.{◌≡◌, set, sym, ap, subst}
use Rattle.std.proofs.Common.{Some as SomeOf, None as NoneOf}
use Rattle.tdl_agenda.specs.declared.chains.Slot.{Slot as SlotOf}
use Rattle.tdl_agenda.specs.Slots.{chain_of, next_at}
use Rattle.tdl_agenda.specs.Linked.{Leads}
use Rattle.tdl_agenda.proofs.Slots.{at_within, slot_read}
use Rattle.tdl_agenda.proofs.Keeping.{out_lost, out_below, out_some, out_linked_at}
use Rattle.tdl_agenda.proofs.Least.{least_from, first_order}
use Rattle.tdl_agenda.proofs.Tails.{tails_out}
use Rattle.tdl_agenda.proofs.chains.Chains.pop.Goals as goal

pub overflow_sub-self : goal.overflow_sub-self
overflow_sub-self c =
    let old = c.args.self.now in
    let least = least_from old.slots.items old.first c.in-Some.slot c.item-item.result c.requires.first c.in-Some.is c.item-item.ensures in
    out_some old.slots.items old.heads old.free old.len c.in-Some.slot c.item-item.result c.requires.linked c.item-item.ensures least

pub first_after-self-requires-clause-linked : goal.first_after-self-requires-clause-linked
first_after-self-requires-clause-linked c =
    let old = c.args.self.now in
    let slot = c.in-Some.slot in
    let x = c.item-item.result in
    let least = least_from old.slots.items old.first slot x c.requires.first c.in-Some.is c.item-item.ensures in
    let read = slot_read old.slots.items slot c.index.result.now (at_within old.slots.items slot x c.item-item.ensures) c.index.ensures in
    out_linked_at old.slots.items old.heads old.free old.len slot x c.requires.linked c.item-item.ensures least c.chain-chain.result c.index.result.now.next
    c.chain-chain.ensures.value (ap (λ (s : SlotOf). s.next) read)

pub first_after-self-requires-clause-least : goal.first_after-self-requires-clause-least
first_after-self-requires-clause-least c =
    let old = c.args.self.now in
    let least = least_from old.slots.items old.first c.in-Some.slot c.item-item.result c.requires.first c.in-Some.is c.item-item.ensures in
    out_below old.slots.items old.heads old.free old.len c.in-Some.slot c.item-item.result c.requires.linked c.item-item.ensures least

pub returns-clause-linked : goal.returns-clause-linked
returns-clause-linked c =
    let old = c.args.self.now in
    let slot = c.in-Some.slot in
    let x = c.item-item.result in
    let least = least_from old.slots.items old.first slot x c.requires.first c.in-Some.is c.item-item.ensures in
    let read = slot_read old.slots.items slot c.index.result.now (at_within old.slots.items slot x c.item-item.ensures) c.index.ensures in
    out_linked_at old.slots.items old.heads old.free old.len slot x c.requires.linked c.item-item.ensures least c.chain-chain.result c.index.result.now.next
    c.chain-chain.ensures.value (ap (λ (s : SlotOf). s.next) read)

pub returns-clause-tails : goal.returns-clause-tails
returns-clause-tails c =
    let old = c.args.self.now in
    let slots = old.slots.items in
    let slot = c.in-Some.slot in
    let x = c.item-item.result in
    let k = c.chain-chain.result in
    let left : SlotOf = record { item = NoneOf; next = old.free } in
    let least = least_from old.slots.items old.first slot x c.requires.first c.in-Some.is c.item-item.ensures in
    let lost = out_lost slots old.heads old.free old.len slot x c.requires.linked c.item-item.ensures least in
    let below = out_below slots old.heads old.free old.len slot x c.requires.linked c.item-item.ensures least in
    let read = slot_read slots slot c.index.result.now (at_within slots slot x c.item-item.ensures) c.index.ensures in
    let next : c.index.result.now.next ≡ next_at slots slot = ap (λ (s : SlotOf). s.next) read in
    let leads = subst (Leads slots (chain_of x) (SomeOf x)) (sym next) (c.requires.linked.links slot x c.item-item.ensures) in
    tails_out (set slots slot left) slots slot x lost old.tails c.index.result.now.next k c.and.result below leads c.requires.tails c.chain-chain.ensures.value
    c.and.ensures

pub returns-clause-first : goal.returns-clause-first
returns-clause-first c = first_order c.requires.linked c.args.self.now.first c.in-Some.slot c.item-item.result c.requires.first c.in-Some.is c.item-item.ensures
