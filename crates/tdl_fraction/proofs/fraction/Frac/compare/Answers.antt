use Rattle.std.proofs.Common.{◌≡◌, ◌∙◌, sym, subst, Ordering}
use Rattle.std.specs.Ordering.{MatchOrdering}
use Rattle.tdl_fraction.specs.Rational.{◌<ℚ◌}
use Rattle.tdl_fraction.proofs.Comparisons.{cmp_seen, cases_from_cmp, is_less, is_equal, is_greater}
use Rattle.tdl_fraction.proofs.fraction.Frac.compare.Goals as goal

pub returns-clause-cases : goal.returns-clause-cases
returns-clause-cases c =
    let x = c.args.self in
    let y = c.args.other in
    let a = c.cross_product.ensures in
    let b = c.cross_product-2.ensures in
    let P : Ordering → Type 0 = λ o. MatchOrdering o (x <ℚ y) (x ≡ y) (y <ℚ x) in
    subst P (sym (c.cmp.ensures ∙ cmp_seen c.cross_product.result c.cross_product-2.result a.bound b.bound)) (cases_from_cmp x y _ _ a.value b.value)

pub returns-clause-less : goal.returns-clause-less
returns-clause-less c = is_less _ _ _ (returns-clause-cases c)

pub returns-clause-equal : goal.returns-clause-equal
returns-clause-equal c = is_equal _ _ _ (returns-clause-cases c)

pub returns-clause-greater : goal.returns-clause-greater
returns-clause-greater c = is_greater _ _ _ (returns-clause-cases c)
