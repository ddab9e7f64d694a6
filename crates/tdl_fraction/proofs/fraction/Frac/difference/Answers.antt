use Rattle.std.proofs.Common.{◌∙◌}
use Rattle.tdl_fraction.proofs.Machine.{minus_on_one, minus_crossed}
use Rattle.tdl_fraction.proofs.fraction.Frac.difference.Goals as goal

pub returns-then-den-denominator-clause-value : goal.returns-then-den-denominator-clause-value
returns-then-den-denominator-clause-value c =
    let l = c.numerator.ensures in
    let r = c.numerator-then-den-denominator.ensures in
    let d = c.denominator-den.ensures in
    minus_on_one _ _ _ _ _ l.in_range r.in_range l.value r.value d.value (c.if-den-denominator.true ∙ c.denominator.ensures.value)

pub returns-clause-value : goal.returns-clause-value
returns-clause-value c =
    let l = c.cross_product.ensures in
    let r = c.cross_product-2.ensures in
    minus_crossed _ _ _ _ _ l.value r.value l.bound r.bound c.common_denominator.ensures.value
