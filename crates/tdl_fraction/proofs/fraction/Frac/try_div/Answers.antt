use Rattle.std.proofs.Common.{◌≡◌, ◌∙◌, FitsSigned, to_z, of_z, ap, rules, sym, subst}
use Rattle.std.proofs.lemmas.Bool.{false≢true}
use Rattle.std.proofs.lemmas.Int.{to_z-of_z}
use mir.Syntax.{w128}
use Rattle.tdl_fraction.specs.Range.{InRange}
use Rattle.tdl_fraction.specs.Rational.{frac, ◌/ℚ◌}
use Rattle.tdl_fraction.proofs.Machine.{zero_seen, nonzero_seen}
use Rattle.tdl_fraction.proofs.fraction.Frac.try_div.Goals as goal

pub returns-then-numerator-eq0-clause-found : goal.returns-then-numerator-eq0-clause-found
returns-then-numerator-eq0-clause-found c =
    let n = c.numerator.ensures in
    (λ e. absurd (false≢true e), λ h. absurd (h.0 (zero_seen _ _ n.in_range n.value c.if-numerator-eq0.true)))

pub quotient-quotient-requires : goal.quotient-quotient-requires
quotient-quotient-requires c = record { divisor = nonzero_seen _ _ c.numerator.ensures.value c.if-numerator-eq0.false }

passed : (c : goal.After-in_range) → frac (to_z w128 (of_z w128 c.quotient-quotient.result.0)) c.quotient-quotient.result.1 ≡ c.args.self /ℚ c.args.other
passed c =
    let fits : FitsSigned w128 c.quotient-quotient.result.0 = search rules in
    ap (λ n. frac n c.quotient-quotient.result.1) (to_z-of_z w128 _ fits) ∙ c.quotient-quotient.ensures.value

pub returns-clause-found : goal.returns-clause-found
returns-clause-found c =
    let found = c.in_range.ensures.found in (
      λ s. (nonzero_seen _ _ c.numerator.ensures.value c.if-numerator-eq0.false, subst InRange (passed c) (found.0 s)),
      λ h. found.1 (subst InRange (sym (passed c)) h.1),
    )
