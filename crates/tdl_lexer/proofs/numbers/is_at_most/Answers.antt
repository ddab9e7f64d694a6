use Rattle.std.proofs.Common.{arith, refl, rules}
use Rattle.tdl_lexer.proofs.Values.{one_more_digit, above_limit, few_digits}
use Rattle.tdl_lexer.proofs.numbers.is_at_most.Goals as goal

pub returns-then-digits-le-FEW_DIGITS : goal.returns-then-digits-le-FEW_DIGITS
returns-then-digits-le-FEW_DIGITS c = few_digits c.args.digits.now c.args.most c.requires.digits (search rules) c.requires.most

pub returns-then-value-limit : goal.returns-then-value-limit
returns-then-value-limit c =
    let value = one_more_digit c.args.digits.now c.loop-digit.digit-index _ _ _ c.requires.digits c.loop-digit-test.true refl c.from.ensures
    c.loop-digit.invariant.value in
    above_limit c.args.digits.now _ _ c.args.most value (omega (arith, c.from-limit.ensures))

pub loop-digit-preserved : goal.loop-digit-preserved
loop-digit-preserved c = record {
  value = one_more_digit c.args.digits.now c.loop-digit.digit-index _ _ _ c.requires.digits c.loop-digit-test.true refl c.from.ensures
      c.loop-digit.invariant.value;
  low = omega (arith, c.from-limit.ensures);
}
