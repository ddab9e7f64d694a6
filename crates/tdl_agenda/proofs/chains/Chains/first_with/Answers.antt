use Rattle.std.proofs.Common.{sym, subst, ◌∙◌}
use Rattle.tdl_agenda.specs.Linked.{IsFirst}
use Rattle.tdl_agenda.proofs.Least.{first_new, first_stays, first_before}
use Rattle.tdl_agenda.proofs.chains.Chains.first_with.Goals as goal

pub returns-then-is_below : goal.returns-then-is_below
returns-then-is_below c = λ slots g.
    first_stays c.args.self.now.slots.items slots c.in-Some.first c.args.slot c.args.item.now c.item.result
    (subst (IsFirst c.args.self.now.slots.items) c.in-Some.is c.requires.first) c.item.ensures (sym c.is_below.ensures ∙ c.if-is_below.true) g

pub returns-else-is_below : goal.returns-else-is_below
returns-else-is_below c = λ slots g.
    first_before c.args.self.now.slots.items slots c.in-Some.first c.args.slot c.args.item.now c.item.result
    (subst (IsFirst c.args.self.now.slots.items) c.in-Some.is c.requires.first) c.item.ensures (sym c.is_below.ensures ∙ c.if-is_below.false) c.requires.order g

pub returns-in-None : goal.returns-in-None
returns-in-None c = λ slots g.
    first_new c.args.self.now.slots.items slots c.args.slot c.args.item.now (subst (IsFirst c.args.self.now.slots.items) c.in-None.is c.requires.first) g
