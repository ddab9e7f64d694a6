use Rattle.std.proofs.Common.{arith, refl}
use Rattle.tdl_log.proofs.LineForms.{digit_range, rest_step}
use Rattle.tdl_log.proofs.forms.remainder.Goals as goal

pub overflow_sub-digit : goal.overflow_sub-digit
overflow_sub-digit c =
    let range = digit_range c.args.digits.now c.loop-digit.digit-index c.requires.digits c.loop-digit-test.true in
    omega (arith, range)

pub loop-digit-preserved : goal.loop-digit-preserved
loop-digit-preserved c =
    rest_step c.args.digits.now c.loop-digit.digit-index _ _ _ _ c.loop-digit-test.true refl c.requires.digits c.from.ensures c.loop-digit.invariant
