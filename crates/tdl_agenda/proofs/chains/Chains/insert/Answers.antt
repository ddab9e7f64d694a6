use Rattle.std.proofs.Common.{refl, sym, ap, subst, ◌∙◌, arith, IsSome, ℕ}
use Rattle.std.proofs.Common.{Some as SomeOf, Option as OptionOf}
use Rattle.std.specs.Option.{option_or}
use Rattle.tdl_agenda.specs.declared.chains.Slot.{Slot as SlotOf}
use Rattle.tdl_agenda.proofs.Slots.{slot_read}
use Rattle.tdl_agenda.proofs.Orders.{gained_order}
use Rattle.tdl_agenda.proofs.Keeping.{free_head, free_is, put_at_head, put_after, put_linked}
use Rattle.tdl_agenda.proofs.Tails.{tails_put}
use Rattle.tdl_agenda.proofs.chains.Chains.insert.Goals as goal

pub unwrap-slot-requires : goal.unwrap-slot-requires
unwrap-slot-requires c =
    let head = free_head c.requires.linked c.requires.room in
    subst (λ (o : OptionOf ℕ). IsSome o) (sym head.1) refl

pub index-requires : goal.index-requires
index-requires c =
    let free = free_is c.requires.linked c.unwrap-slot.result c.requires.room c.unwrap-slot.ensures in
    let within = free.0 in
    let many = c.args.self.now.slots.ok.0 in
    omega arith

pub index_mut-requires : goal.index_mut-requires
index_mut-requires c =
    let free = free_is c.requires.linked c.unwrap-slot.result c.requires.room c.unwrap-slot.ensures in
    let within = free.0 in
    let many = c.args.self.now.slots.ok.0 in
    omega arith

pub returns-in-Some : goal.returns-in-Some
returns-in-Some c =
    let old = c.args.self.now in
    let slots = old.slots.items in
    let f = c.unwrap-slot.result in
    let x = c.args.item in
    let place = c.place-place.result in
    let was = c.index_mut-in-Some.result.now in
    let put = put_after c.requires.linked f x c.requires.room c.unwrap-slot.ensures place.before place.after c.in-Some.before was
    (record { item = was.item; next = SomeOf f }) c.in-Some.is c.place-place.ensures c.index_mut-in-Some.ensures.value refl refl in
    let free = free_is c.requires.linked f c.requires.room c.unwrap-slot.ensures in
    let read = slot_read slots f c.index.result.now free.0 c.index.ensures in
    let linked = put_linked slots _ old.heads old.heads old.free old.len f x c.requires.linked place.before place.after c.unwrap-slot.ensures c.requires.order
    c.place-place.ensures put in
    record {
      linked = rw (ap (λ (s : SlotOf). s.next) read) linked;
      first = c.first_with-first.ensures _ put.gained;
      tails = tails_put slots _ f x put.gained old.tails place.before place.after c.chain-chain.result c.or.result c.place-place.ensures c.requires.tails
          c.chain-chain.ensures.value (c.or.ensures ∙ ap (λ (o : OptionOf ℕ). option_or o (SomeOf f)) c.and.ensures);
      items = gained_order slots _ f x put.long put.gained c.requires.order;
      slots = put.long;
      len = refl;
    }

pub returns-in-None : goal.returns-in-None
returns-in-None c =
    let old = c.args.self.now in
    let slots = old.slots.items in
    let f = c.unwrap-slot.result in
    let x = c.args.item in
    let place = c.place-place.result in
    let put = put_at_head c.requires.linked f x c.requires.room c.unwrap-slot.ensures place.before place.after c.chain-chain.result c.in-None.is
    c.chain-chain.ensures.value in
    let free = free_is c.requires.linked f c.requires.room c.unwrap-slot.ensures in
    let read = slot_read slots f c.index.result.now free.0 c.index.ensures in
    let linked = put_linked slots _ old.heads _ old.free old.len f x c.requires.linked place.before place.after c.unwrap-slot.ensures c.requires.order
    c.place-place.ensures put in
    record {
      linked = rw (ap (λ (s : SlotOf). s.next) read) linked;
      first = c.first_with-first.ensures _ put.gained;
      tails = tails_put slots _ f x put.gained old.tails place.before place.after c.chain-chain.result c.or.result c.place-place.ensures c.requires.tails
          c.chain-chain.ensures.value (c.or.ensures ∙ ap (λ (o : OptionOf ℕ). option_or o (SomeOf f)) c.and.ensures);
      items = gained_order slots _ f x put.long put.gained c.requires.order;
      slots = put.long;
      len = refl;
    }
