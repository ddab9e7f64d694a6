use Rattle.std.proofs.Common.{sym, subst}
use Rattle.tdl_score.specs.History.{entries_of}
use Rattle.tdl_core.specs.Replies.{CoreState, MayPlay}
use Rattle.tdl_core.proofs.Played.{accepted_finish, going, kept_after_finish, not_finished}
use Rattle.tdl_core.proofs.machine.Core.finish.Goals as goal

pub push_finish-requires-clause-going : goal.push_finish-requires-clause-going
push_finish-requires-clause-going c =
    let laws = c.lines_make_histories.ensures in
    let may = subst (λ (core : CoreState). MayPlay (entries_of c.args.who core.history) c.args.who) (sym c.self.view_is) c.requires in
    going laws.growth laws.one c.self.invariant c.args.who may

pub and_finish-self-inside-requires : goal.and_finish-self-inside-requires
and_finish-self-inside-requires c =
    let laws = c.lines_make_histories.ensures in
    let may = subst (λ (core : CoreState). MayPlay (entries_of c.args.who core.history) c.args.who) (sym c.self.view_is) c.requires in
    not_finished laws.growth laws.one c.self.invariant c.args.who may

pub invariant_of-self : goal.invariant_of-self
invariant_of-self c =
    let laws = c.lines_make_histories.ensures in
    let may = subst (λ (core : CoreState). MayPlay (entries_of c.args.who core.history) c.args.who) (sym c.self.view_is) c.requires in
    rw (
      c.push_finish.ensures,
      c.and_finish-self-inside.ensures.performed,
      c.and_finish-self-inside.ensures.ticks,
      c.and_finish-self-inside.ensures.packets,
      c.and_finish-self-inside.ensures.messages,
      c.and_finish-self-inside.ensures.finished,
      c.len.ensures,
    )
    (kept_after_finish laws.growth laws.one c.self.invariant c.args.who may c.finish-midi.result c.finish-midi.ensures.left c.finish-midi.new.self)

pub returns : goal.returns
returns c =
    let laws = c.lines_make_histories.ensures in
    let may = subst (λ (core : CoreState). MayPlay (entries_of c.args.who core.history) c.args.who) (sym c.self.view_is) c.requires in
    rw (← c.self.view_is)
    (accepted_finish laws.growth laws.one c.self.invariant c.args.who may c.finish-midi.result c.finish-midi.ensures.left c.push_finish.new.self.entries
    c.len-place.result c.len-place.ensures.value c.push_finish.ensures)
