use Rattle.std.proofs.Common.{◌*◌, ◌^◌, ◌≤◌, arith, mul-pos}
use Rattle.tdl_tempo.proofs.Scaling.{size_is, size_positive, quotient_is, product_near, numerator_near, quotient_near}
use Rattle.tdl_tempo.proofs.scaled.Goals as goal

above_near : (c : goal.After-denominator) → c.unsigned_abs.result * c.args.scale * c.denominator.result ≤ 2 ^ 112 * 65535
above_near c =
    let n = size_is c.args.time _ _ c.numerator.ensures.in_range c.numerator.ensures.value c.unsigned_abs.ensures.value in
    product_near _ _ _ (rw n (numerator_near c.args.time c.numerator.ensures.in_range)) c.requires.fine
    (rw c.denominator.ensures.value c.requires.allowed.below_line)

pub overflow_mul-above-2 : goal.overflow_mul-above-2
overflow_mul-above-2 c =
    let h = above_near c in
    omega arith

pub nonzero_div-result : goal.nonzero_div-result
nonzero_div-result c =
    let m = size_is c.args.cps _ _ c.numerator-2.ensures.in_range c.numerator-2.ensures.value c.unsigned_abs-2.ensures.value in
    mul-pos c.denominator-2.ensures.positive (rw m (size_positive c.args.cps c.requires.allowed.positive))

pub returns-clause-value : goal.returns-clause-value
returns-clause-value c =
    let n = size_is c.args.time _ _ c.numerator.ensures.in_range c.numerator.ensures.value c.unsigned_abs.ensures.value in
    let m = size_is c.args.cps _ _ c.numerator-2.ensures.in_range c.numerator-2.ensures.value c.unsigned_abs-2.ensures.value in
    quotient_is c.args.time c.args.cps _ _ _ _ _ c.requires.from_zero c.requires.allowed.positive n c.denominator.ensures.value c.denominator-2.ensures.value m

pub returns-clause-bound : goal.returns-clause-bound
returns-clause-bound c = quotient_near _ _ (above_near c.before.before.before)
