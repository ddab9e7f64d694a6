use Rattle.tdl_fraction.proofs.Machine.{quotient_below, quotient_above, quotient_positive}
use Rattle.tdl_fraction.proofs.fraction.Frac.quotient.Goals as goal

pub returns-then-below-lt0-clause-value : goal.returns-then-below-lt0-clause-value
returns-then-below-lt0-clause-value c =
    let a = c.cross_product-above.ensures in
    let b = c.cross_product-below.ensures in
    quotient_below c.args.self c.args.other _ _ _ a.value b.value a.bound b.bound c.if-below-lt0.true c.unsigned_abs.ensures.value

pub returns-clause-value : goal.returns-clause-value
returns-clause-value c =
    let a = c.cross_product-above.ensures in
    let b = c.cross_product-below.ensures in
    quotient_above c.args.self c.args.other _ _ _ a.value b.value a.bound b.bound c.if-below-lt0.false c.unsigned_abs-2.ensures.value c.requires.divisor

pub returns-clause-positive : goal.returns-clause-positive
returns-clause-positive c =
    let b = c.cross_product-below.ensures in
    quotient_positive c.args.self c.args.other _ _ b.value b.bound c.unsigned_abs-2.ensures.value c.requires.divisor
