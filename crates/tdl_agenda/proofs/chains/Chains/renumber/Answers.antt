use Rattle.std.proofs.Common.{ℕ, ◌+◌, ◌-◌, ◌<◌, ◌≤◌, set, refl, ap, ap₂, arith}
use Rattle.std.proofs.Common.{Some as SomeOf, None as NoneOf, Option as OptionOf}
use Rattle.tdl_agenda.specs.declared.chains.Slot.{Slot as SlotOf}
use Rattle.tdl_agenda.proofs.Slots.{at_within, slot_read}
use Rattle.tdl_agenda.proofs.Counts.{behind, counted, counted_within}
use Rattle.tdl_agenda.proofs.Renumbering.{number_fits, renumber_on, renumber_ends, numbered_order, numbered_linked, numbered_first, numbered_tails}
use Rattle.tdl_agenda.proofs.chains.Chains.renumber.Goals as goal

falls : (total number : ℕ) → number + 1 ≤ total → total - (number + 1) < total - number
falls total number h = omega arith

pub overflow_add-number : goal.overflow_add-number
overflow_add-number c =
    let old = c.args.self.now in
    let at = c.loop-slot in
    let fits = number_fits old.slots.items at.self.slots.items old.heads at.heads old.free old.len at.number c.in-Some.slot c.item-item.result c.requires.linked
    at.invariant.state c.in-Some.ensures c.item-item.ensures in
    let few = counted_within (behind NoneOf) old.slots.items in
    let many = old.slots.ok.0 in
    let small = old.slots.small in
    omega (arith, fits, few, many, small)

pub loop-slot-smaller : goal.loop-slot-smaller
loop-slot-smaller c =
    let old = c.args.self.now in
    let at = c.loop-slot in
    falls (counted (behind NoneOf) old.slots.items) at.number
    (number_fits old.slots.items at.self.slots.items old.heads at.heads old.free old.len at.number c.in-Some.slot c.item-item.result c.requires.linked
    at.invariant.state c.in-Some.ensures c.item-item.ensures)

pub loop-slot-preserved : goal.loop-slot-preserved
loop-slot-preserved c =
    let old = c.args.self.now in
    let at = c.loop-slot in
    let slot = c.in-Some.slot in
    let x = c.item-item.result in
    let now = at.self.slots.items in
    let within = at_within now slot x c.item-item.ensures in
    let read = slot_read now slot c.index.result.now within c.index.ensures in
    let written = slot_read now slot c.index_mut.result.now within c.index_mut.ensures.value in
    let numbered_slot : SlotOf = record { item = SomeOf (record { time = x.time; order = at.number; note = x.note }); next = c.index_mut.result.now.next } in
    let heads = ap₂ (λ (k : ℕ) (next : OptionOf ℕ). set at.heads k next) c.chain.ensures.value (ap (λ (s : SlotOf). s.next) read) in
    record {
      state = renumber_on old.slots.items now old.heads at.heads old.free old.len at.number slot x c.requires.linked at.invariant.state c.in-Some.ensures
          c.item-item.ensures _ numbered_slot _ refl refl (ap (λ (s : SlotOf). s.next) written) heads;
      heads = at.invariant.heads;
      tails = at.invariant.tails;
      first = at.invariant.first;
      free = at.invariant.free;
      len = at.invariant.len;
    }

pub returns : goal.returns
returns c =
    let old = c.args.self.now in
    let at = c.loop-slot in
    let kept = at.invariant in
    let now = at.self.slots.items in
    let all = renumber_ends c.requires.linked kept.state c.lowest.result c.lowest.ensures c.in_default.not-Some in
    let linked = numbered_linked old.slots.items now old.heads old.free old.len c.requires.linked all in
    record {
      linked = rw (kept.heads, kept.free, kept.len) linked;
      first = rw kept.first (numbered_first old.slots.items now old.heads old.free old.len c.requires.linked all old.first c.requires.first);
      tails = rw kept.tails (numbered_tails old.slots.items now old.heads old.free old.len c.requires.linked all old.tails c.requires.tails);
      items = numbered_order old.slots.items now old.heads old.free old.len c.requires.linked all;
      slots = all.long;
      len = kept.len;
    }
