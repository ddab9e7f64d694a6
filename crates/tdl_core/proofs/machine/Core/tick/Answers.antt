use Rattle.std.proofs.Common.{sym, ◌∙◌, subst}
use Rattle.tdl_score.specs.History.{entries_of}
use Rattle.tdl_core.specs.Replies.{CoreState, MayPlay}
use Rattle.tdl_core.proofs.Kept.{put_behind}
use Rattle.tdl_core.proofs.Played.{accepted_tick, kept_after_tick}
use Rattle.tdl_core.proofs.Refusals.{accepted_answers}
use Rattle.tdl_core.proofs.machine.Core.tick.Goals as goal

pub invariant_of-self-2 : goal.invariant_of-self-2
invariant_of-self-2 c =
    let laws = c.lines_make_histories.ensures in
    let kept = c.self.invariant in
    let may = subst (λ (core : CoreState). MayPlay (entries_of c.args.who core.history) c.args.who) (sym c.self.view_is) c.requires in
    let due = c.in_ok-osc.ensures in
    rw (
      c.push.ensures,
      c.in_ok-reserve.ensures.entries,
      c.and_tick-self-inside.ensures.performed,
      c.and_tick-self-inside.ensures.ticks,
      c.and_tick-self-inside.ensures.packets,
      c.and_tick-self-inside.ensures.messages,
      c.and_tick-self-inside.ensures.finished,
      c.len.ensures,
      c.len-2.ensures,
    )
    (kept_after_tick laws.growth laws.one kept c.args.who may c.args.to c.in_default.ensures.value c.in_ok-osc.field-0.osc
    (due.osc kept.changes kept.desk.stands) c.time_of.result c.time_of.ensures c.deref.result.now
    (c.deref.ensures.value ∙ due.tones kept.changes kept.desk.stands) c.in_ok-midi.midi c.in_ok-midi.ensures.gained c.settle.new.self c.tick.new.self
    (c.settle.ensures.stands kept.changes kept.desk.stands) c.settle.ensures.settled c.in_ok-midi.ensures.waits)

pub returns : goal.returns
returns c =
    let laws = c.lines_make_histories.ensures in
    let kept = c.self.invariant in
    let may = subst (λ (core : CoreState). MayPlay (entries_of c.args.who core.history) c.args.who) (sym c.self.view_is) c.requires in
    let due = c.in_ok-osc.ensures in
    rw (← c.self.view_is)
    (accepted_answers _ _ _ _ _
    (accepted_tick laws.growth laws.one kept c.args.who may c.args.to c.in_default.ensures.value c.in_ok-osc.field-0.osc
    (due.osc kept.changes kept.desk.stands) c.time_of.result c.time_of.ensures c.deref.result.now
    (c.deref.ensures.value ∙ due.tones kept.changes kept.desk.stands) c.in_ok-midi.midi c.in_ok-midi.ensures.gained c.push.new.self.entries
    c.len-place.result c.len-place.ensures.value
    (put_behind _ c.push.ensures c.in_ok-reserve.ensures.entries)))
