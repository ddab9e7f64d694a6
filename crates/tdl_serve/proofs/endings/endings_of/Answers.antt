use Rattle.std.proofs.Common.{◌≡◌, length, take, ap, ◌∙◌, arith, length-take-le}
use Rattle.tdl_serve.proofs.PortEnds.{numbered_length, numbered_next}
use Rattle.tdl_serve.proofs.endings.endings_of.Goals as goal

pub add-requires : goal.add-requires
add-requires c =
    let so_many : length c.loop-i.endings ≡ length (take c.loop-i.i c.args.ends.now) = ap length c.loop-i.invariant ∙ numbered_length 1 _ in
    omega (arith, so_many, length-take-le c.loop-i.i c.args.ends.now (omega arith), c.loop-i-test.true, c.requires)

pub loop-i-preserved : goal.loop-i-preserved
loop-i-preserved c =
    numbered_next c.args.ends.now c.loop-i.i _ c.loop-i.endings c.add.new.self (omega (arith, c.loop-i-test.true)) c.loop-i.invariant c.add.ensures
