use Rattle.std.proofs.Common.{◌≡◌, length, ap, ◌∙◌, arith}
use Rattle.tdl_app.specs.Served.{all_stopped}
use Rattle.tdl_app.proofs.ServedRuns.{stopped_length, stopped_next}
use Rattle.tdl_app.proofs.served.all_stopped.Goals as goal

pub loop-i-init : goal.loop-i-init
loop-i-init c = c.new-ends.ensures

pub add-requires : goal.add-requires
add-requires c =
    let so_many : length c.loop-i.ends ≡ c.loop-i.i = ap length c.loop-i.invariant ∙ stopped_length 1 c.loop-i.i in
    omega (arith, so_many, c.loop-i-test.true, c.requires)

pub loop-i-preserved : goal.loop-i-preserved
loop-i-preserved c = stopped_next c.loop-i.i c.loop-i.ends c.add.new.self c.loop-i.invariant c.add.ensures

pub returns : goal.returns
returns c =
    let all : c.loop-i.i ≡ c.args.count = omega (arith, c.loop-i.auto.i-end, c.loop-i-test.false) in
    c.loop-i.invariant ∙ ap (all_stopped 1) all
