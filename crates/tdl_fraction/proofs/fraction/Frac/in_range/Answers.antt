use Rattle.std.proofs.Common.{◌≡◌, ◌∙◌, FitsSigned, to_z, of_z, ap, rules}
use Rattle.std.proofs.lemmas.Int.{to_z-of_z}
use mir.Syntax.{w128}
use Rattle.tdl_fraction.specs.Rational.{frac}
use Rattle.tdl_fraction.proofs.Parts.{frac-same}
use Rattle.tdl_fraction.proofs.fraction.Frac.in_range.Goals as goal

pub returns-clause-value : goal.returns-clause-value
returns-clause-value c =
    let fits : FitsSigned w128 c.lowest_terms-num.result.0 = search rules in
    let e = c.lowest_terms-num.ensures in
    let passed : to_z w128 (of_z w128 c.args.num) ≡ c.args.num = to_z-of_z w128 _ c.ranges.num in
    frac-same _ _ (frac (to_z w128 (of_z w128 c.args.num)) c.args.den) (to_z-of_z w128 _ fits ∙ e.numerator) e.denominator
    ∙ ap (λ n. frac n c.args.den) passed
