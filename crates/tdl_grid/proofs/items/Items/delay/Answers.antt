use Rattle.std.proofs.Common.{rules, ◌∙◌, length, refl, ap, arith}
use Rattle.tdl_meaning.proofs.Moves.{none_moved, length-moved}
use Rattle.tdl_grid.specs.Item.{delayed}
use Rattle.tdl_grid.proofs.Sums.{read}
use Rattle.tdl_grid.proofs.Moved.{next_counts, next_moved, all_moved_by, later_part}
use Rattle.tdl_grid.proofs.items.Items.delay.Goals as goal

pub loop-i-init : goal.loop-i-init
loop-i-init c = none_moved (delayed (read c.args.by)) c.args.from c.args.self.now

pub get-item-requires : goal.get-item-requires
get-item-requires c =
    let here = length-moved (delayed (read c.args.by)) c.args.from c.loop-i.i c.args.self.now c.loop-i.auto.i in
    omega (arith, here, ap length c.loop-i.invariant)

pub later-whole-requires : goal.later-whole-requires
later-whole-requires c =
    let counts = next_counts delayed c.args.by c.ranges.by c.args.from c.args.self.now c.loop-i.i c.loop-i.auto.i _ _ c.loop-i.invariant (search rules)
    (c.item.view_is ∙ c.get-item.ensures _) c.requires.fits in
    record { start = counts.whole_start; stop = counts.whole_stop }

pub later-part-requires : goal.later-part-requires
later-part-requires c =
    let counts = next_counts delayed c.args.by c.ranges.by c.args.from c.args.self.now c.loop-i.i c.loop-i.auto.i _ _ c.loop-i.invariant (search rules)
    (c.item.view_is ∙ c.get-item.ensures _) c.requires.fits in
    record { start = counts.part_start; stop = counts.part_stop }

pub retime-requires-clause-inside : goal.retime-requires-clause-inside
retime-requires-clause-inside c =
    rw (c.later-whole.ensures, c.later-part.ensures) (later_part _ c.item.inside.part c.item.inside.whole c.item.invariant)

pub loop-i-preserved : goal.loop-i-preserved
loop-i-preserved c =
    next_moved (delayed (read c.args.by)) c.args.from c.loop-i.i c.loop-i.auto.i c.args.self.now _ _ c.loop-i.invariant (search rules)
    (c.item.view_is ∙ c.get-item.ensures _) _ _ _ (c.retime.ensures _) c.later-whole.ensures c.later-part.ensures refl

pub returns : goal.returns
returns c = all_moved_by delayed c.args.by c.ranges.by c.args.from c.args.self.now c.loop-i.i _ c.loop-i.invariant (omega arith)
