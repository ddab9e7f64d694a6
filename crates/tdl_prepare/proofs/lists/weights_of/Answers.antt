use Rattle.std.proofs.Common.{ℤ, ap, ◌∙◌, arith}
use Rattle.std.proofs.lemmas.Int.{ints}
use Rattle.tdl_fraction.specs.Rational.{frac}
use Rattle.tdl_prepare.proofs.Weights.{weights_more}
use Rattle.tdl_prepare.proofs.lists.weights_of.Goals as goal

pub loop-part-preserved : goal.loop-part-preserved
loop-part-preserved c =
    weights_more c.args.parts.now c.loop-part.part-index c.part-item.result c.loop-part.weights.items _ c.ten_thousandths.result c.loop-part-test.true
    c.part-item.is c.loop-part.invariant (c.ten_thousandths.ensures ∙ ap (λ (z : ℤ). frac z 10000) (omega (arith, ints))) c.in_ok-push.ensures.items
