use Rattle.std.proofs.Common.{subst}
use Rattle.tdl_fraction.specs.Rational.{Rational, ◌<ℚ◌}
use Rattle.tdl_value_tests.proofs.clocks.clock_at.Goals as goal

pub of-requires : goal.of-requires
of-requires g c = subst (λ (zero : Rational). zero <ℚ c.in_ok-cps.cps) c.whole.ensures (c.is_less.ensures.less.0 c.if-is_less.true)
