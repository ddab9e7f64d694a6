use Rattle.std.proofs.Common.{ℤ, sym, ap, ◌∙◌, subst}
use Rattle.tdl_fraction.specs.Range.{IsFraction}
use Rattle.tdl_fraction.specs.Rational.{frac}
use Rattle.tdl_fraction.proofs.Parts.{IsFraction-whole, whole-frac}
use Rattle.tdl_fraction.proofs.WholeWords.{widened}
use Rattle.tdl_fraction.proofs.fraction.Frac.whole.Goals as goal

pub invariant_of-result : goal.invariant_of-result
invariant_of-result c =
    let P : ℤ → Type 0 = λ n. IsFraction n 1 in
    subst P (sym (widened _ c.ranges.n)) (IsFraction-whole _ c.requires)

pub returns : goal.returns
returns c = ap (λ n. frac n 1) (widened _ c.ranges.n) ∙ sym (whole-frac _)
