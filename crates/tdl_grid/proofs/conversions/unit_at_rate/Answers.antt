use Rattle.std.proofs.Common.{sym, subst, ◌<◌}
use Rattle.tdl_expr.proofs.Numbers.{upper_positive}
use Rattle.tdl_grid.proofs.UnitRates.{size_read, unit_made}
use Rattle.tdl_grid.proofs.conversions.unit_at_rate.Goals as goal

pub nonzero_div-result : goal.nonzero_div-result
nonzero_div-result c =
    let n = c.numerator.ensures in
    let size = size_read c.args.rate _ _ n.in_range n.value c.unsigned_abs.ensures.value in
    subst (λ k. 0 < k) (sym size) (upper_positive c.args.rate c.requires.above)

pub returns : goal.returns
returns c =
    let n = c.numerator.ensures in
    let size = size_read c.args.rate _ _ n.in_range n.value c.unsigned_abs.ensures.value in
    unit_made c.args.rate c.args.unit _ _ c.requires.divides size c.denominator.ensures.value
