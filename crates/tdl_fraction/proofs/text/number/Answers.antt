use Rattle.std.proofs.Common.{arith, refl, ◌<◌, ◌^◌}
use Rattle.std.proofs.lemmas.Int.Digits.{digits_more}
use Rattle.tdl_fraction.proofs.Numerals.{not_numeral, few_digits, one_more_digit}
use Rattle.tdl_fraction.proofs.text.number.Goals as goal

pub returns-then-not-is_ascii_digit-clause-value : goal.returns-then-not-is_ascii_digit-clause-value
returns-then-not-is_ascii_digit-clause-value c =
    λ h. not_numeral c.args.digits.now c.loop-digit.digit-index _ c.loop-digit-test.true refl c.if-not-is_ascii_digit.ensures.cases h.numeral.1

pub overflow_mul-value : goal.overflow_mul-value
overflow_mul-value c =
    let few : c.loop-digit.value < 10 ^ 37 = few_digits c.args.digits.now c.loop-digit.digit-index 37 _ (omega arith)
    (omega arith) c.loop-digit.invariant.value c.loop-digit.invariant.digits in
    omega arith

pub overflow_add-value : goal.overflow_add-value
overflow_add-value c =
    let few : c.loop-digit.value < 10 ^ 37 = few_digits c.args.digits.now c.loop-digit.digit-index 37 _ (omega arith)
    (omega arith) c.loop-digit.invariant.value c.loop-digit.invariant.digits in
    omega (arith, c.from.ensures, c.if-not-is_ascii_digit.ensures.cases)

pub loop-digit-preserved : goal.loop-digit-preserved
loop-digit-preserved c = record {
  value = one_more_digit c.args.digits.now c.loop-digit.digit-index _ _ _ c.loop-digit-test.true refl c.if-not-is_ascii_digit.ensures.cases c.from.ensures
      c.loop-digit.invariant.value;
  digits = digits_more 10 c.args.digits.now c.loop-digit.digit-index c.loop-digit-test.true c.loop-digit.invariant.digits c.if-not-is_ascii_digit.ensures.bound;
}

pub returns-clause-bound : goal.returns-clause-bound
returns-clause-bound c = few_digits c.args.digits.now c.loop-digit.digit-index c.args.most _ (omega arith)
    (omega arith) c.loop-digit.invariant.value c.loop-digit.invariant.digits
