use Rattle.std.proofs.Common.{refl}
use Rattle.tdl_lexer.proofs.Values.{one_more_digit}
use Rattle.tdl_mini.proofs.DigitLemmas.{times_fits, next_fits}
use Rattle.tdl_mini.proofs.tokens.digits_value.Goals as goal

pub overflow_mul-value : goal.overflow_mul-value
overflow_mul-value c = times_fits c.args.digits.now c.loop-digit.digit-index _ c.requires.plain c.requires.fits c.loop-digit-test.true c.loop-digit.invariant

pub overflow_add-value : goal.overflow_add-value
overflow_add-value c =
    next_fits c.args.digits.now c.loop-digit.digit-index _ _ _ c.requires.plain c.requires.fits c.loop-digit-test.true refl c.from.ensures
    c.loop-digit.invariant

pub loop-digit-preserved : goal.loop-digit-preserved
loop-digit-preserved c =
    one_more_digit c.args.digits.now c.loop-digit.digit-index _ _ _ c.requires.plain c.loop-digit-test.true refl c.from.ensures c.loop-digit.invariant
