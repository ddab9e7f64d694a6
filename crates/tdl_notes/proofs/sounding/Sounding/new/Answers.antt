use Rattle.tdl_notes.proofs.Gains.{waits_first}
use Rattle.tdl_notes.proofs.Ticks.{ready_first}
use Rattle.tdl_notes.proofs.sounding.Sounding.new.Goals as goal

pub invariant_of-result : goal.invariant_of-result
invariant_of-result c =
    ready_first c.new-agenda.result.items 0 c.new-finale.result.items _ _ c.new-agenda.ensures.items c.new-finale.ensures.items c.new-finale.ensures.len

pub returns : goal.returns
returns c = λ frontier. waits_first frontier (record { items = c.new-agenda.result.items; next = 0 }) c.new-agenda.ensures.items
