use Rattle.std.proofs.Common.{FitsSigned, arith, rules}
use Rattle.std.proofs.lemmas.Int.{ints}
use mir.Syntax.{w128}
use Rattle.tdl_fraction.proofs.Words128.{signed_num, signed_den, divisor_positive, divisor_small, quotient_fits, reduced_num}
use Rattle.tdl_fraction.proofs.Words128.{reduced_den, lowest_num, lowest_den, whole_num, whole_den}
use Rattle.tdl_fraction.proofs.divisor.lowest_terms.Goals as goal

pub returns-then-den-eq1-clause-numerator : goal.returns-then-den-eq1-clause-numerator
returns-then-den-eq1-clause-numerator c = whole_num _ _ c.ranges.num c.if-den-eq1.true

pub returns-then-den-eq1-clause-denominator : goal.returns-then-den-eq1-clause-denominator
returns-then-den-eq1-clause-denominator c = whole_den _ _ c.if-den-eq1.true

pub returns-then-divisor-eq1-clause-numerator : goal.returns-then-divisor-eq1-clause-numerator
returns-then-divisor-eq1-clause-numerator c =
    lowest_num _ _ _ _ c.ranges.num c.unsigned_abs-size.ensures.value c.greatest_divisor-divisor.ensures c.requires.positive c.if-divisor-eq1.true

pub returns-then-divisor-eq1-clause-denominator : goal.returns-then-divisor-eq1-clause-denominator
returns-then-divisor-eq1-clause-denominator c =
    lowest_den _ _ _ _ c.ranges.num c.unsigned_abs-size.ensures.value c.greatest_divisor-divisor.ensures c.requires.positive c.if-divisor-eq1.true

pub returns-then-den-le-WORD-clause-numerator : goal.returns-then-den-le-WORD-clause-numerator
returns-then-den-le-WORD-clause-numerator c =
    let fits : FitsSigned w128 c.with_sign.result = search rules in
    signed_num _ _ _ _ _ c.ranges.num fits c.unsigned_abs-size.ensures.value c.without_divisor-size.ensures.first c.with_sign.ensures c.requires.positive

pub returns-then-den-le-WORD-clause-denominator : goal.returns-then-den-le-WORD-clause-denominator
returns-then-den-le-WORD-clause-denominator c =
    signed_den _ _ _ _ c.ranges.num c.unsigned_abs-size.ensures.value c.without_divisor-size.ensures.second c.requires.positive

pub overflow_cast-result-2 : goal.overflow_cast-result-2
overflow_cast-result-2 c =
    omega (arith, ints, divisor_small _ _ _ c.greatest_divisor-divisor.ensures c.requires.positive c.requires.signed)

pub nonzero_div-result : goal.nonzero_div-result
nonzero_div-result c =
    let positive = divisor_positive _ _ _ c.greatest_divisor-divisor.ensures c.requires.positive in
    let small = divisor_small _ _ _ c.greatest_divisor-divisor.ensures c.requires.positive c.requires.signed in
    (positive, quotient_fits _ _ c.ranges.num positive small)

pub nonzero_div-result-2 : goal.nonzero_div-result-2
nonzero_div-result-2 c = divisor_positive _ _ _ c.greatest_divisor-divisor.ensures c.requires.positive

pub returns-clause-numerator : goal.returns-clause-numerator
returns-clause-numerator c =
    reduced_num _ _ _ _ c.ranges.num c.unsigned_abs-size.ensures.value c.greatest_divisor-divisor.ensures c.requires.positive c.requires.signed

pub returns-clause-denominator : goal.returns-clause-denominator
returns-clause-denominator c =
    reduced_den _ _ _ _ c.ranges.num c.unsigned_abs-size.ensures.value c.greatest_divisor-divisor.ensures c.requires.positive
