use Rattle.std.proofs.Common.{◌∙◌}
use Rattle.tdl_fraction.proofs.Comparisons.{lt_seen, lt_crossed, IsTrue-lt, false-lt}
use Rattle.tdl_fraction.proofs.fraction.Frac.is_less.Goals as goal

pub returns-clause-value : goal.returns-clause-value
returns-clause-value c =
    let a = c.cross_product.ensures in
    let b = c.cross_product-2.ensures in
    lt_seen c.cross_product.result c.cross_product-2.result a.bound b.bound ∙ lt_crossed c.args.self c.args.other _ _ a.value b.value

pub returns-clause-less : goal.returns-clause-less
returns-clause-less c = IsTrue-lt c.args.self c.args.other _ (returns-clause-value c)

pub returns-clause-not_less : goal.returns-clause-not_less
returns-clause-not_less c = false-lt c.args.self c.args.other _ (returns-clause-value c)
