use Rattle.std.proofs.Common.{rules, ◌∙◌, length, refl, ap, arith}
use Rattle.tdl_meaning.proofs.Moves.{none_moved, length-moved}
use Rattle.tdl_grid.specs.Item.{turned_item}
use Rattle.tdl_grid.proofs.Sums.{read}
use Rattle.tdl_grid.proofs.Moved.{next_counts, next_moved, all_moved_by, turned_part}
use Rattle.tdl_grid.proofs.items.Items.turn.Goals as goal

pub loop-i-init : goal.loop-i-init
loop-i-init c = none_moved (turned_item (read c.args.round)) c.args.from c.args.self.now

pub get-item-requires : goal.get-item-requires
get-item-requires c =
    let here = length-moved (turned_item (read c.args.round)) c.args.from c.loop-i.i c.args.self.now c.loop-i.auto.i in
    omega (arith, here, ap length c.loop-i.invariant)

pub turned-whole-requires : goal.turned-whole-requires
turned-whole-requires c =
    let counts = next_counts turned_item c.args.round c.ranges.round c.args.from c.args.self.now c.loop-i.i c.loop-i.auto.i _ _ c.loop-i.invariant
    (search rules) (c.item.view_is ∙ c.get-item.ensures _) c.requires.fits in
    record { start = counts.whole_stop; stop = counts.whole_start }

pub turned-part-requires : goal.turned-part-requires
turned-part-requires c =
    let counts = next_counts turned_item c.args.round c.ranges.round c.args.from c.args.self.now c.loop-i.i c.loop-i.auto.i _ _ c.loop-i.invariant
    (search rules) (c.item.view_is ∙ c.get-item.ensures _) c.requires.fits in
    record { start = counts.part_stop; stop = counts.part_start }

pub retime-requires-clause-inside : goal.retime-requires-clause-inside
retime-requires-clause-inside c =
    rw (c.turned-whole.ensures, c.turned-part.ensures) (turned_part _ c.item.inside.part c.item.inside.whole c.item.invariant)

pub loop-i-preserved : goal.loop-i-preserved
loop-i-preserved c =
    next_moved (turned_item (read c.args.round)) c.args.from c.loop-i.i c.loop-i.auto.i c.args.self.now _ _ c.loop-i.invariant (search rules)
    (c.item.view_is ∙ c.get-item.ensures _) _ _ _ (c.retime.ensures _) c.turned-whole.ensures c.turned-part.ensures refl

pub returns : goal.returns
returns c = all_moved_by turned_item c.args.round c.ranges.round c.args.from c.args.self.now c.loop-i.i _ c.loop-i.invariant (omega arith)
