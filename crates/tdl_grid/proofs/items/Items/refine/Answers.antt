use Rattle.std.proofs.Common.{rules, ◌∙◌, drop, length, refl, ap, arith}
use Rattle.tdl_meaning.proofs.Lists.{each_unmap}
use Rattle.tdl_meaning.proofs.Moves.{none_moved, all_moved, length-moved, read_at}
use Rattle.tdl_grid.specs.Item.{Item, HasCounts, finer_item}
use Rattle.tdl_grid.proofs.Moved.{next_moved, finer_part}
use Rattle.tdl_grid.proofs.items.Items.refine.Goals as goal

pub loop-i-init : goal.loop-i-init
loop-i-init c = none_moved (finer_item c.args.times) c.args.from c.args.self.now

pub get-item-requires : goal.get-item-requires
get-item-requires c =
    let here = length-moved (finer_item c.args.times) c.args.from c.loop-i.i c.args.self.now c.loop-i.auto.i in
    omega (arith, here, ap length c.loop-i.invariant)

pub finer-whole-requires : goal.finer-whole-requires
finer-whole-requires c =
    let f = finer_item c.args.times in
    let counts = read_at c.args.from c.loop-i.i c.loop-i.auto.i (λ (y : Item). HasCounts (f y)) f c.args.self.now _ _ c.loop-i.invariant (search rules)
    (c.item.view_is ∙ c.get-item.ensures _) (each_unmap HasCounts f (drop c.args.from c.args.self.now) c.requires.fits) in
    record { positive = c.requires.positive; small = c.requires.small; start = counts.whole_start; stop = counts.whole_stop }

pub finer-part-requires : goal.finer-part-requires
finer-part-requires c =
    let f = finer_item c.args.times in
    let counts = read_at c.args.from c.loop-i.i c.loop-i.auto.i (λ (y : Item). HasCounts (f y)) f c.args.self.now _ _ c.loop-i.invariant (search rules)
    (c.item.view_is ∙ c.get-item.ensures _) (each_unmap HasCounts f (drop c.args.from c.args.self.now) c.requires.fits) in
    record { positive = c.requires.positive; small = c.requires.small; start = counts.part_start; stop = counts.part_stop }

pub retime-requires-clause-inside : goal.retime-requires-clause-inside
retime-requires-clause-inside c =
    rw (c.finer-whole.ensures, c.finer-part.ensures) (finer_part c.args.times c.item.inside.part c.item.inside.whole c.item.invariant)

pub loop-i-preserved : goal.loop-i-preserved
loop-i-preserved c =
    next_moved (finer_item c.args.times) c.args.from c.loop-i.i c.loop-i.auto.i c.args.self.now _ _ c.loop-i.invariant (search rules)
    (c.item.view_is ∙ c.get-item.ensures _) _ _ _ (c.retime.ensures _) c.finer-whole.ensures c.finer-part.ensures refl

pub returns : goal.returns
returns c = all_moved (finer_item c.args.times) c.args.from c.loop-i.i c.args.self.now _ c.loop-i.invariant (omega arith)
