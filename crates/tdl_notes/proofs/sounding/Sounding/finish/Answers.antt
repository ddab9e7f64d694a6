use Rattle.std.proofs.Common.{ℕ, List, Vec, Global, vec_len, vec_capacity, sym, ap, subst, ◌∙◌}
use Rattle.tdl_notes.specs.Ready.{IsReady}
use Rattle.tdl_notes.proofs.Ticks.{finish_sends, ready_first, rest-all}
use Rattle.tdl_notes.proofs.sounding.Sounding.finish.Goals as goal

pub invariant_of-self : goal.invariant_of-self
invariant_of-self c =
    subst (λ (v : Vec (List ℕ) Global). IsReady c.play_due.new.agenda.items c.self.inside.next v.items (vec_len v) (vec_capacity v))
    (sym c.replace-messages.ensures.after)
    (ready_first c.play_due.new.agenda.items c.self.inside.next c.new.result.items _ _ (c.play_due.ensures.left ∙ rest-all c.self.inside.agenda.items)
    c.new.ensures.items c.new.ensures.len)

pub returns-clause-left : goal.returns-clause-left
returns-clause-left c = λ frontier score waits.
    finish_sends frontier score c.self.inside.agenda.items c.self.inside.next c.args.self.now c.of.result c.replace-messages.result.items
    c.play_due.new.messages.items c.self.view_is (ap (λ (v : Vec (List ℕ) Global). v.items) c.replace-messages.ensures.value ∙ c.self.invariant.empty)
    c.play_due.ensures.messages c.of.ensures waits

pub returns-clause-none_waits : goal.returns-clause-none_waits
returns-clause-none_waits c = c.play_due.ensures.left ∙ rest-all c.self.inside.agenda.items
