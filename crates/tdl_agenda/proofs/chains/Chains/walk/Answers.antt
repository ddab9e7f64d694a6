use Rattle.std.proofs.Common.{sym, ap, subst, ◌∙◌}
use Rattle.std.proofs.Common.{Some as SomeOf}
use Rattle.tdl_agenda.specs.declared.chains.Slot.{Slot as SlotOf}
use Rattle.tdl_agenda.specs.inside.Steps.{IsWalked}
use Rattle.tdl_agenda.proofs.Slots.{at_within, slot_read}
use Rattle.tdl_agenda.proofs.Walk.{walk_on, walk_nears}
use Rattle.tdl_agenda.proofs.chains.Chains.walk.Goals as goal

pub loop-after-smaller : goal.loop-after-smaller
loop-after-smaller c =
    let slots = c.args.self.now.slots.items in
    let x = c.args.item.now in
    walk_nears slots x c.loop-after.before c.in-Some.slot (subst (IsWalked slots x c.loop-after.before) c.in-Some.is c.loop-after.invariant)

pub loop-after-preserved : goal.loop-after-preserved
loop-after-preserved c =
    let slots = c.args.self.now.slots.items in
    let slot = c.in-Some.slot in
    let x = c.args.item.now in
    let y = c.item.result in
    let walked = subst (IsWalked slots x c.loop-after.before) c.in-Some.is c.loop-after.invariant in
    let on = walk_on c.requires.linked x y c.loop-after.before slot c.requires.order walked c.item.ensures (sym c.is_below.ensures ∙ c.if-is_below.false) in
    let read = slot_read slots slot c.index.result.now (at_within slots slot y c.item.ensures) c.index.ensures in
    subst (IsWalked slots x (SomeOf slot)) (sym (ap (λ (s : SlotOf). s.next) read)) on
