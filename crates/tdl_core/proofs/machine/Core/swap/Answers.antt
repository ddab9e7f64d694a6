use Rattle.std.proofs.Common.{◌∙◌, ◌++◌, ◌∷◌, [], sym}
use Rattle.tdl_score.specs.Programs.{program_tree}
use Rattle.tdl_desk.specs.Changes.{map_change}
use Rattle.tdl_core.proofs.Kept.{orbit_of, put_behind, settled_now, ≤_from_same}
use Rattle.tdl_core.proofs.Performed.{accepted_swap, kept_after_swap}
use Rattle.tdl_core.proofs.Refusals.{accepted_answers}
use Rattle.tdl_core.proofs.machine.Core.swap.Goals as goal

pub add-requires-clause-orbit : goal.add-requires-clause-orbit
add-requires-clause-orbit c =
    orbit_of program_tree c.args.change
    (c.lines_make_histories.ensures.good c.args.text c.args.every (map_change program_tree c.args.change) c.requires.says).orbit

pub settle-requires : goal.settle-requires
settle-requires c = ≤_from_same (c.add.ensures.settled ∙ c.in_ok-reserve.ensures.settled ∙ settled_now c.self.invariant)

pub invariant_of-self-2 : goal.invariant_of-self-2
invariant_of-self-2 c =
    let laws = c.lines_make_histories.ensures in
    let kept = c.self.invariant in
    rw (
      c.push.ensures,
      c.in_ok-reserve-2.ensures.entries,
      c.and_performed-self-inside.ensures.performed,
      c.and_performed-self-inside.ensures.ticks,
      c.and_performed-self-inside.ensures.packets,
      c.and_performed-self-inside.ensures.messages,
      c.and_performed-self-inside.ensures.finished,
    )
    (kept_after_swap laws.growth laws.one laws.past kept c.args.who c.boundary-boundary.result c.args.every c.args.text c.args.change c.requires.performer
    c.requires.says c.in_default.ensures.value c.boundary-boundary.ensures.value c.settle.new.self
    (c.settle.ensures.stands (kept.changes ++ record { boundary = c.boundary-boundary.result; change = c.args.change } ∷ [])
    (c.add.ensures.stands kept.changes (c.in_ok-reserve.ensures.stands kept.changes kept.desk.stands)))
    (c.settle.ensures.settled ∙ sym (settled_now kept)))

pub returns : goal.returns
returns c =
    let laws = c.lines_make_histories.ensures in
    rw (← c.self.view_is)
    (accepted_answers _ _ _ _ _
    (accepted_swap laws.growth laws.one laws.past c.self.invariant c.args.who c.boundary-boundary.result c.args.every c.args.text c.args.change
    c.requires.performer c.requires.says c.in_default.ensures.value c.boundary-boundary.ensures.value c.push.new.self.entries c.len-place.result
    c.len-place.ensures.value (put_behind _ c.push.ensures c.in_ok-reserve-2.ensures.entries)))
