use Rattle.std.proofs.Common.{sym}
use Rattle.tdl_fraction.proofs.MinMax.{max-left, max-right}
use Rattle.tdl_fraction.proofs.Order.{≤ℚ_from_<ℚ}
use Rattle.tdl_fraction.proofs.fraction.Frac.max.Goals as goal

pub returns-then-is_less-clause-value : goal.returns-then-is_less-clause-value
returns-then-is_less-clause-value c = sym (max-left (≤ℚ_from_<ℚ (c.is_less.ensures.less.0 c.if-is_less.true)))

pub returns-else-is_less-clause-value : goal.returns-else-is_less-clause-value
returns-else-is_less-clause-value c = sym (max-right (c.is_less.ensures.not_less.0 c.if-is_less.false))
