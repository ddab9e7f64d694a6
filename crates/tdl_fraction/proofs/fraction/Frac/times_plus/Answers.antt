use Rattle.tdl_fraction.proofs.WholeWords.{product_fits, rest_fits, scaled_fits, scaled_num, scaled_den}
use Rattle.tdl_fraction.proofs.fraction.Frac.times_plus.Goals as goal

pub overflow_mul-num : goal.overflow_mul-num
overflow_mul-num c =
    let w = c.without_divisor-times.ensures in
    product_fits c.args.self c.args.times c.args.plus _ _ _ _ c.requires c.ranges.plus c.numerator.ensures.in_range c.numerator.ensures.value
    c.denominator.ensures.value w.first w.second

pub overflow_mul-num-2 : goal.overflow_mul-num-2
overflow_mul-num-2 c =
    let w = c.without_divisor-times.ensures in
    rest_fits c.args.self c.args.times c.args.plus _ _ _ _ c.requires c.ranges.plus c.numerator.ensures.in_range c.numerator.ensures.value
    c.denominator.ensures.value w.first w.second

pub overflow_add-num : goal.overflow_add-num
overflow_add-num c =
    let w = c.without_divisor-times.ensures in
    scaled_fits c.args.self c.args.times c.args.plus _ _ _ _ c.requires c.ranges.plus c.numerator.ensures.in_range c.numerator.ensures.value
    c.denominator.ensures.value w.first w.second

pub returns-clause-numerator : goal.returns-clause-numerator
returns-clause-numerator c =
    let w = c.without_divisor-times.ensures in
    scaled_num c.args.self c.args.times c.args.plus _ _ _ _ c.requires c.ranges.plus c.numerator.ensures.in_range c.numerator.ensures.value
    c.denominator.ensures.value w.first w.second

pub returns-clause-denominator : goal.returns-clause-denominator
returns-clause-denominator c =
    let w = c.without_divisor-times.ensures in
    scaled_den c.args.self c.args.times c.args.plus _ _ _ _ c.requires c.ranges.plus c.numerator.ensures.in_range c.numerator.ensures.value
    c.denominator.ensures.value w.first w.second
