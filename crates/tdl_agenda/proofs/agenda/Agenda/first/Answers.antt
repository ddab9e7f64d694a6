use Rattle.std.proofs.Common.{◌≡◌, slice_get, IfSome, Bor, sym, ap, subst, ◌∙◌}
use Rattle.std.proofs.Common.{Some, None, Option, List}
use Rattle.std.specs.Option.{option_copied}
use Rattle.tdl_agenda.specs.declared.items.Item.{Item}
use Rattle.tdl_agenda.specs.declared.chains.Slot.{Slot}
use Rattle.tdl_agenda.specs.Slots.{in_order}
use Rattle.tdl_agenda.specs.Linked.{IsFirst, IsLeast}
use Rattle.tdl_agenda.proofs.Slots.{at_within, slot_read}
use Rattle.tdl_agenda.proofs.Least.{first_order}
use Rattle.tdl_agenda.proofs.agenda.Agenda.first.Goals as goal

shown : (r : Option (Bor Item)) (o : Option Item) → option_copied r ≡ o → IfSome r (λ item. o ≡ Some item.now)
shown None o e = tt
shown (Some item) o e = sym e

pub returns-in-Some-clause-first : goal.returns-in-Some-clause-first
returns-in-Some-clause-first c =
    let slots = c.self.inside.chains.slots.items in
    let slot = c.in-Some.slot in
    let least : IsLeast slots slot = subst (IsFirst slots) c.in-Some.is c.self.invariant.first in
    let read = slot_read slots slot c.index.result.now (at_within slots slot least.item least.there) c.index.ensures in
    let order = first_order c.self.invariant.linked c.self.inside.chains.first slot least.item c.self.invariant.first c.in-Some.is least.there in
    let item = c.as_ref.ensures.value ∙ ap (λ (s : Slot). s.item) read ∙ least.there in
    rw (← c.self.view_is) (shown c.as_ref.result (slice_get (in_order slots) 0) (item ∙ sym (ap (λ (l : List Item). slice_get l 0) order)))
