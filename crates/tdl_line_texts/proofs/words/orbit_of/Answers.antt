use Rattle.std.proofs.Common.{◌+◌, arith, refl}
use Rattle.tdl_lexer.proofs.Values.{digit_in_range, one_more_digit, above_limit}
use Rattle.tdl_line_texts.proofs.OrbitNames.{no_orbit_above}
use Rattle.tdl_line_texts.proofs.words.orbit_of.Goals as goal

pub overflow_add-value : goal.overflow_add-value
overflow_add-value c =
    let range = digit_in_range c.args.digits.now c.loop-digit.digit-index _ c.requires c.loop-digit-test.true refl in
    omega (arith, range.0, range.1, c.loop-digit.invariant.0)

pub returns-then-value-gt-MAX_ORBIT : goal.returns-then-value-gt-MAX_ORBIT
returns-then-value-gt-MAX_ORBIT c =
    let value = one_more_digit c.args.digits.now c.loop-digit.digit-index _ _ _ c.requires c.loop-digit-test.true refl refl c.loop-digit.invariant.1 in
    no_orbit_above c.args.digits.now (above_limit c.args.digits.now (c.loop-digit.digit-index + 1) _ 16 value c.if-value-gt-MAX_ORBIT.true)

pub loop-digit-preserved : goal.loop-digit-preserved
loop-digit-preserved c = (
  c.if-value-gt-MAX_ORBIT.false,
  one_more_digit c.args.digits.now c.loop-digit.digit-index _ _ _ c.requires c.loop-digit-test.true refl refl c.loop-digit.invariant.1,
)
