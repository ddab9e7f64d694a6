use Rattle.std.proofs.Common.{sym, ◌∙◌}
use Rattle.tdl_agenda.proofs.Turns.{not_above}
use Rattle.tdl_agenda.proofs.Least.{not_above-refl, not_above-lower}
use Rattle.tdl_agenda.proofs.chains.Chains.lower.Goals as goal

pub returns-then-is_below-clause-first : goal.returns-then-is_below-clause-first
returns-then-is_below-clause-first c =
    let below = not_above c.item.result c.item-in-Some-Some.result (sym c.is_below.ensures ∙ c.if-is_below.true) in
    rw (c.in-Some-Some.is-0, c.in-Some-Some.is-1)
    (not_above-lower c.args.self.now.slots.items c.in-Some-Some.high c.in-Some-Some.low c.item.result c.item-in-Some-Some.result
    c.item.ensures c.item-in-Some-Some.ensures below)

pub returns-then-is_below-clause-second : goal.returns-then-is_below-clause-second
returns-then-is_below-clause-second c = not_above-refl c.args.self.now.slots.items c.args.other

pub returns-else-is_below-clause-first : goal.returns-else-is_below-clause-first
returns-else-is_below-clause-first c = not_above-refl c.args.self.now.slots.items c.args.one

pub returns-in-Some-None-clause-first : goal.returns-in-Some-None-clause-first
returns-in-Some-None-clause-first c = not_above-refl c.args.self.now.slots.items c.args.one

pub returns-in-None-default-clause-second : goal.returns-in-None-default-clause-second
returns-in-None-default-clause-second c = not_above-refl c.args.self.now.slots.items c.args.other
