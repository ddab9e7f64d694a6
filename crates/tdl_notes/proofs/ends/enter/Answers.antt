use Rattle.std.proofs.Common.{◌+◌, drop, sym, ap, subst, ◌∙◌, arith, add-one}
use Rattle.tdl_notes.specs.inside.Machine.{entered}
use Rattle.tdl_notes.proofs.Entering.{AllBelow, orders-inserted}
use Rattle.tdl_notes.proofs.OneMore.{entered-step, below_apart}
use Rattle.tdl_notes.proofs.ends.enter.Goals as goal

pub insert-requires-clause-order : goal.insert-requires-clause-order
insert-requires-clause-order c = below_apart c.loop-tone.order c.loop-tone.agenda.items c.loop-tone.invariant.below

pub loop-tone-preserved : goal.loop-tone-preserved
loop-tone-preserved c =
    let tones = c.args.tones.now in
    let i = c.loop-tone.tone-index in
    let n = c.loop-tone.order in
    let tone = c.tone-item.result in
    let items = c.loop-tone.agenda.items in
    let kept = c.loop-tone.invariant in
    record {
      entered = ap (entered (n + 1) (drop (i + 1) tones)) c.insert.ensures.items ∙ sym (entered-step n i tone tones items (omega arith) c.tone-item.is)
          ∙ kept.entered;
      order = omega arith;
      room = omega arith;
      below = subst (AllBelow (n + 1)) (sym c.insert.ensures.items) (rw add-one (orders-inserted n tone items kept.below));
    }
