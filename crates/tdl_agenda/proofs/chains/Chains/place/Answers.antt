use Rattle.std.proofs.Common.{sym, subst, ◌∙◌}
use Rattle.std.proofs.Common.{Some as SomeOf}
use Rattle.tdl_agenda.specs.Linked.{IsLast}
use Rattle.tdl_agenda.proofs.Tails.{tail_place}
use Rattle.tdl_agenda.proofs.chains.Chains.place.Goals as goal

pub returns-then-is_below : goal.returns-then-is_below
returns-then-is_below c =
    let slots = c.args.self.now.slots.items in
    let last = subst (IsLast slots c.args.chain) c.in-Some.is (c.requires.tails.lasts c.args.chain c.requires.bound) in
    tail_place slots c.args.item.now c.item.result c.in-Some.tail (subst (λ k. IsLast slots k (SomeOf c.in-Some.tail)) c.requires.chain last) c.item.ensures
    (sym c.is_below.ensures ∙ c.if-is_below.true)
