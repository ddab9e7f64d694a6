use Rattle.std.proofs.Common.{◌≡◌, ◌+◌, ◌++◌, Result, Ok, Err, OnErr, List, map, length, refl, sym, ap, subst, ◌∙◌, arith}
use Rattle.std.specs.List.{AllByRecursion}
use Rattle.tdl_agenda.specs.declared.items.Item.{Item}
use Rattle.tdl_midi.specs.Notes.{IsNote}
use Rattle.tdl_notes.specs.Notes.{message}
use Rattle.tdl_notes.specs.Waiting.{Queue, end_mark}
use Rattle.tdl_notes.specs.inside.Machine.{left, played}
use Rattle.tdl_notes.proofs.Entering.{AllBelow}
use Rattle.tdl_notes.proofs.Renumbering.{length-remarked}
use Rattle.tdl_notes.proofs.Ticks.{length-entered, entered_notes, ready_kept, ready_on, tick_sends, tick_waits}
use Rattle.tdl_notes.proofs.sounding.Sounding.tick.Goals as goal

err_holds : {T E : Type 0} (r : Result T E) (P : Type 0) → P → OnErr r P
err_holds (Ok x) P p = tt
err_holds (Err e) P p = p

same_marks : (items room kept : List Item) → map end_mark kept ≡ map end_mark room → room ≡ items → map end_mark kept ≡ map end_mark items
same_marks items room kept e f = e ∙ ap (λ (l : List Item). map end_mark l) f

pub invariant_of-self : goal.invariant_of-self
invariant_of-self c =
    ready_kept c.self.inside.agenda.items c.make_room.new.agenda.items c.self.inside.next c.self.inside.finale.items c.make_room.new.finale.items _ _ _ _
    c.self.invariant c.make_room.ensures.items c.make_room.ensures.finale_items c.make_room.ensures.finale_len c.make_room.ensures.capacity

pub returns-in_err-messages-clause-err : goal.returns-in_err-messages-clause-err
returns-in_err-messages-clause-err c =
    let queue : List Item → Queue = λ items. record { items = items; next = c.self.inside.next } in
    err_holds c.from_residual.result (queue c.make_room.new.agenda.items ≡ c.args.self.now) (ap queue c.make_room.ensures.items ∙ c.self.view_is)

pub enter-requires-clause-room : goal.enter-requires-clause-room
enter-requires-clause-room c =
    let some = c.in_ok-messages.ensures.spare in
    let same = c.first_number-first.ensures.spare in
    omega (arith, some, same)

pub first_number-first-requires-clause-below : goal.first_number-first-requires-clause-below
first_number-first-requires-clause-below c = subst (AllBelow c.self.inside.next) (sym c.make_room.ensures.items) c.self.invariant.numbered

pub first_number-first-requires-clause-fits : goal.first_number-first-requires-clause-fits
first_number-first-requires-clause-fits c =
    let fits = c.in_ok-messages.ensures.fits in
    let kept : length c.make_room.new.agenda.items ≡ length c.self.inside.agenda.items = ap (λ (l : List Item). length l) c.make_room.ensures.items in
    omega (arith, fits, kept)

pub play-requires-clause-ends : goal.play-requires-clause-ends
play-requires-clause-ends c =
    subst (λ (l : List Item). AllByRecursion (λ item. IsNote item.note) l) (sym c.enter.ensures)
    (entered_notes c.first_number-first.result c.args.tones.now c.self.inside.agenda.items c.first_number-first.new.agenda.items
    (same_marks _ _ _ c.first_number-first.ensures.marks c.make_room.ensures.items) c.self.invariant.notes c.requires)

pub play-requires-clause-room : goal.play-requires-clause-room
play-requires-clause-room c =
    let some = c.in_ok-messages.ensures.room in
    let all = length-entered c.first_number-first.result c.args.tones.now c.first_number-first.new.agenda.items in
    let entered : length c.enter.new.agenda.items ≡ _ = ap (λ (l : List Item). length l) c.enter.ensures in
    let kept = length-remarked c.self.inside.agenda.items c.first_number-first.new.agenda.items
    (same_marks _ _ _ c.first_number-first.ensures.marks c.make_room.ensures.items) in
    omega (arith, some, all, entered, kept)

pub invariant_of-self-2 : goal.invariant_of-self-2
invariant_of-self-2 c =
    ready_on c.args.to c.args.tones.now c.self.inside.agenda.items c.first_number-first.new.agenda.items c.play.new.agenda.items c.self.inside.next
    c.first_number-first.result (c.first_number-first.result + length c.args.tones.now) c.self.inside.finale.items c.make_room.new.finale.items _ _ _ _
    c.self.invariant c.requires (same_marks _ _ _ c.first_number-first.ensures.marks c.make_room.ensures.items) c.first_number-first.ensures.below
    (c.play.ensures.left ∙ ap (left c.args.to c.args.tones.now) c.enter.ensures) refl c.make_room.ensures.finale_items
    c.make_room.ensures.finale_len c.in_ok-messages.ensures.finale

pub returns-clause-gained : goal.returns-clause-gained
returns-clause-gained c = λ frontier score begun span waits.
    let sent = c.play.ensures.messages
    ∙ ap (λ (l : List Item). c.in_ok-messages.messages.items ++ map message (played c.args.to c.args.tones.now l)) c.enter.ensures in
    tick_sends frontier c.args.to score c.args.tones.now c.self.inside.agenda.items c.first_number-first.new.agenda.items c.self.inside.next
    c.first_number-first.result c.args.self.now c.of.result c.in_ok-messages.messages.items c.play.new.messages.items c.self.view_is
    (same_marks _ _ _ c.first_number-first.ensures.marks c.make_room.ensures.items) c.first_number-first.ensures.below c.in_ok-messages.ensures.list sent
    c.of.ensures waits begun span

pub returns-clause-waits : goal.returns-clause-waits
returns-clause-waits c = λ frontier score span waits.
    tick_waits frontier c.args.to score c.args.tones.now c.self.inside.agenda.items c.first_number-first.new.agenda.items c.self.inside.next
    c.first_number-first.result c.args.self.now c.play.new.agenda.items (c.first_number-first.result + length c.args.tones.now) c.self.view_is
    (same_marks _ _ _ c.first_number-first.ensures.marks c.make_room.ensures.items) c.first_number-first.ensures.below
    (c.play.ensures.left ∙ ap (left c.args.to c.args.tones.now) c.enter.ensures) refl waits span
