use Rattle.tdl_fraction.proofs.Quotients.{floor_is, floor_shortened, whole_floor_seen}
use Rattle.tdl_fraction.proofs.fraction.Frac.floor.Goals as goal

pub returns-clause-value : goal.returns-clause-value
returns-clause-value c =
    let n = c.numerator-2.ensures in
    let d = c.denominator-2.ensures in
    floor_shortened c.args.self _ n.in_range (floor_is c.args.self _ _ _ n.in_range n.value d.value c.div_euclid.ensures)

pub returns-then-denominator-eq1-clause-value : goal.returns-then-denominator-eq1-clause-value
returns-then-denominator-eq1-clause-value c =
    whole_floor_seen c.args.self _ _ c.numerator.ensures.in_range c.numerator.ensures.value c.denominator.ensures.value c.if-denominator-eq1.true
