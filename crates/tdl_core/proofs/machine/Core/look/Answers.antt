use Rattle.std.proofs.Common.{◌/◌, ◌∙◌, map}
use Rattle.tdl_desk.specs.Desk.{desk}
use Rattle.tdl_fraction.specs.Units.{tick_units}
use Rattle.tdl_score.specs.Programs.{dated_tree, program_tree}
use Rattle.tdl_core.proofs.Kept.{put_behind}
use Rattle.tdl_core.proofs.MappedLooks.{look-mapped}
use Rattle.tdl_core.proofs.Performed.{accepted_look, kept_after_look}
use Rattle.tdl_core.proofs.Refusals.{accepted_answers}
use Rattle.tdl_core.proofs.machine.Core.look.Goals as goal

pub invariant_of-self-2 : goal.invariant_of-self-2
invariant_of-self-2 c =
    let laws = c.lines_make_histories.ensures in
    rw (
      c.push.ensures,
      c.in_ok-reserve.ensures.entries,
      c.and_performed-self-inside.ensures.performed,
      c.and_performed-self-inside.ensures.ticks,
      c.and_performed-self-inside.ensures.packets,
      c.and_performed-self-inside.ensures.messages,
      c.and_performed-self-inside.ensures.finished,
    )
    (kept_after_look laws.growth laws.one laws.past c.self.invariant c.args.who c.requires c.in_default.ensures.value)

pub returns : goal.returns
returns c =
    let laws = c.lines_make_histories.ensures in
    let kept = c.self.invariant in
    let seen = c.programs_are_seen_as_trees.ensures in
    let shown = c.in_ok-text.ensures kept.changes kept.desk.stands in
    rw (← c.self.view_is)
    (accepted_answers _ _ _ _ _
    (accepted_look laws.growth laws.one laws.past kept c.args.who c.requires c.in_default.ensures.value c.push.new.self.entries c.len-place.result
    c.in_ok-text.text c.len-place.ensures.value (put_behind _ c.push.ensures c.in_ok-reserve.ensures.entries) (shown
    ∙ look-mapped program_tree (desk kept.changes (c.self.inside.frontier / tick_units))
    (desk (map dated_tree kept.changes) (c.self.inside.frontier / tick_units)) (seen.patterns kept.changes _) (seen.muted kept.changes _)
    (seen.soloed kept.changes _) (seen.audible kept.changes _) c.self.inside.frontier c.len-place.result)))
