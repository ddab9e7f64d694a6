use Rattle.std.proofs.Common.{◌≡◌, ℕ, ◌+◌, ◌-◌, [], ◌∷◌, ◌++◌, length, ap, ◌∙◌, arith}
use Rattle.std.proofs.Common.{List as ListOf}
use Rattle.std.proofs.Common.{None as NoneOf}
use Rattle.std.proofs.lemmas.List.{length_push}
use Rattle.tdl_agenda.specs.declared.chains.Slot.{Slot as SlotOf}
use Rattle.tdl_agenda.specs.Slots.{in_order, item_at}
use Rattle.tdl_agenda.proofs.Orders.{with_free}
use Rattle.tdl_agenda.proofs.Keeping.{item_grown, grown_linked}
use Rattle.tdl_agenda.proofs.Least.{first_same}
use Rattle.tdl_agenda.proofs.Tails.{tails_same}
use Rattle.tdl_agenda.proofs.chains.Chains.reserve.Goals as goal

pub loop-self-preserved : goal.loop-self-preserved
loop-self-preserved c =
    let kept = c.loop-self.invariant in
    let old = c.loop-self.self.slots.items in
    let new = c.push.new.self.items in
    let free = c.loop-self.self.free in
    let another : SlotOf = record { item = NoneOf; next = free } in
    let pushed : new ≡ old ++ another ∷ [] = c.in_ok-push.ensures.items in
    let longer : length new ≡ length old + 1 = ap length pushed ∙ length_push old another in
    let many = c.push.new.self.ok.0 in
    let last : c.len-in-loop-self.result - 1 ≡ length old = omega arith in
    let same : (j : ℕ) → item_at new j ≡ item_at old j = λ j. ap (λ (slots : ListOf SlotOf). item_at slots j) pushed ∙ item_grown old free j in
    let order : in_order new ≡ in_order old = ap in_order pushed ∙ with_free old free in
    record {
      linked = grown_linked old c.loop-self.self.heads free c.loop-self.self.len kept.linked new (c.len-in-loop-self.result - 1) pushed last;
      first = first_same old new c.loop-self.self.first order same kept.first;
      tails = tails_same old new c.loop-self.self.tails same kept.tails;
      items = order ∙ kept.items;
      spare = let before = kept.spare in omega arith;
    }
