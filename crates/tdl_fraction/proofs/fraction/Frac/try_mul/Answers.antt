use Rattle.std.proofs.Common.{◌≡◌, ◌↔◌, IsSome, IfSome, to_z, of_z, subst}
use Rattle.std.proofs.lemmas.Bool.{false≢true}
use mir.Syntax.{w128}
use Rattle.tdl_fraction.specs.Range.{InRange}
use Rattle.tdl_fraction.specs.Rational.{frac, ◌*ℚ◌}
use Rattle.tdl_fraction.proofs.Machine.{product_fits, product_fitting}
use Rattle.tdl_fraction.proofs.fraction.Frac.try_mul.Goals as goal

pub returns-in_err-product-clause-found : goal.returns-in_err-product-clause-found
returns-in_err-product-clause-found c =
    let l = c.numerator.ensures in
    let r = c.numerator-2.ensures in (
      λ e. absurd (false≢true (subst (λ o. IsSome o) c.from_residual.ensures e)),
      λ h. absurd (c.in_err-product.ensures (product_fits _ _ _ _ l.in_range r.in_range h l.value r.value)),
    )

product : (c : goal.After-in_range) → frac (to_z w128 (of_z w128 c.in_ok-product.product)) c.common_denominator.result ≡ c.args.self *ℚ c.args.other
product c =
    let l = c.numerator.ensures in
    let r = c.numerator-2.ensures in
    let p = c.in_ok-product.ensures in
    product_fitting _ _ _ _ _ _ l.in_range r.in_range l.value r.value c.common_denominator.ensures.value p.0 p.1

pub returns-clause-found : goal.returns-clause-found
returns-clause-found c = subst (λ q. IsSome c.in_range.result ↔ InRange q) (product c) c.in_range.ensures.found

pub returns-clause-value : goal.returns-clause-value
returns-clause-value c = subst (λ q. IfSome c.in_range.result (λ x. x ≡ q)) (product c) c.in_range.ensures.value
