use Rattle.tdl_grid.proofs.UnitRates.{count_fits, count_as, count_bound}
use Rattle.tdl_grid.proofs.conversions.count_at.Goals as goal

pub overflow_mul-result : goal.overflow_mul-result
overflow_mul-result c =
    let n = c.numerator.ensures in
    count_fits c.args.time c.args.unit _ _ n.in_range c.requires.small c.requires.divides n.value c.denominator.ensures.value

pub returns-clause-value : goal.returns-clause-value
returns-clause-value c =
    let n = c.numerator.ensures in
    count_as c.args.time c.args.unit _ _ n.in_range c.requires.small c.requires.divides n.value c.denominator.ensures.value

pub returns-clause-bound : goal.returns-clause-bound
returns-clause-bound c =
    let n = c.numerator.ensures in
    count_bound c.args.time c.args.unit _ _ n.in_range c.requires.small c.requires.divides n.value c.denominator.ensures.value
