use Rattle.std.proofs.Common.{◌<◌, length, arith}
use Rattle.tdl_expr.proofs.WeightLemmas.{common_step}
use Rattle.tdl_expr.proofs.weights.common_denominator.Goals as goal

pub least_multiple-common-requires-clause-fits : goal.least_multiple-common-requires-clause-fits
least_multiple-common-requires-clause-fits c =
    let weights = c.args.weights.now in
    let weight = c.weight-item.result in
    let within : c.loop-weight.weight-index < length weights = omega (arith, c.loop-weight-test.true) in
    rw (c.loop-weight.invariant, c.denominator.ensures.value, c.weight-item.is) (common_step weights c.loop-weight.weight-index weight within c.requires.each)
