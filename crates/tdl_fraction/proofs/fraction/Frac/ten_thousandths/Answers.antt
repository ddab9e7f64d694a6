use Rattle.std.proofs.Common.{◌≤◌, ◌*◌, ◌^◌, nat_abs, sym, ap, ◌∙◌, subst, arith}
use Rattle.tdl_fraction.specs.Range.{InRange}
use Rattle.tdl_fraction.specs.Rational.{frac}
use Rattle.tdl_fraction.proofs.Ranges.{InRange-frac}
use Rattle.tdl_fraction.proofs.WholeWords.{widened}
use Rattle.tdl_fraction.proofs.fraction.Frac.ten_thousandths.Goals as goal

pub from_parts-requires-clause-in_range : goal.from_parts-requires-clause-in_range
from_parts-requires-clause-in_range c =
    let near : nat_abs c.args.count ≤ 2 ^ 36 * 10000 = omega (arith, c.requires) in
    subst (λ n. InRange (frac n 10000)) (sym (widened _ c.ranges.count)) (InRange-frac c.args.count 10000 (omega arith) (omega arith) near)

pub returns : goal.returns
returns c = c.from_parts.ensures ∙ ap (λ n. frac n 10000) (widened _ c.ranges.count)
