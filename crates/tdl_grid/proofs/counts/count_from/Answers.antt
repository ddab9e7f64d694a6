use Rattle.tdl_grid.proofs.Sums.{cycle_read}
use Rattle.tdl_grid.proofs.Starts.{count_fits, count_read, count_from_small}
use Rattle.tdl_grid.proofs.counts.count_from.Goals as goal

pub overflow_add-result : goal.overflow_add-result
overflow_add-result c =
    let a = c.args in
    let q = c.requires in
    let cycles = cycle_read _ _ _ a.unit c.floor.ensures.value c.floor.ensures.bound c.count_of.ensures.value in
    count_fits a.time a.unit c.rest_of-rest.result c.div_ceil.result c.count_of.result c.denominator-parts.ensures.in_range q.positive q.small
    c.rest_of-rest.ensures.value c.rest_of-rest.ensures.below c.denominator-parts.result c.denominator-parts.ensures.value c.div_ceil.ensures cycles
    c.count_of.ensures.bound

pub returns-clause-value : goal.returns-clause-value
returns-clause-value c =
    let a = c.args in
    let q = c.requires in
    let cycles = cycle_read _ _ _ a.unit c.floor.ensures.value c.floor.ensures.bound c.count_of.ensures.value in
    count_read a.time a.unit c.rest_of-rest.result c.div_ceil.result c.count_of.result c.denominator-parts.ensures.in_range q.positive q.small
    c.rest_of-rest.ensures.value c.rest_of-rest.ensures.below c.denominator-parts.result c.denominator-parts.ensures.value c.div_ceil.ensures cycles
    c.count_of.ensures.bound

pub returns-clause-bound : goal.returns-clause-bound
returns-clause-bound c =
    rw (returns-clause-value c) (count_from_small c.args.time c.args.unit c.denominator-parts.ensures.in_range c.requires.positive c.requires.small)
