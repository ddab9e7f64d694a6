use Rattle.tdl_fraction.proofs.Quotients.{below_is, ceil_shortened, ceil_near, whole_ceil_seen}
use Rattle.tdl_fraction.proofs.fraction.Frac.ceil.Goals as goal

pub returns-clause-value : goal.returns-clause-value
returns-clause-value c =
    let n = c.numerator-2.ensures in
    let d = c.denominator-2.ensures in
    ceil_shortened c.args.self _ n.in_range (below_is c.args.self _ _ _ n.in_range n.value d.value c.div_euclid.ensures)

pub returns-clause-bound : goal.returns-clause-bound
returns-clause-bound c = rw (returns-clause-value c) (ceil_near c.args.self c.numerator-2.ensures.in_range)

pub returns-then-denominator-eq1-clause-value : goal.returns-then-denominator-eq1-clause-value
returns-then-denominator-eq1-clause-value c =
    whole_ceil_seen c.args.self _ _ c.numerator.ensures.in_range c.numerator.ensures.value c.denominator.ensures.value c.if-denominator-eq1.true
