use Rattle.std.proofs.Common.{rules, subst}
use Rattle.tdl_fraction.specs.Rational.{Rational, ◌<ℚ◌}
use Rattle.tdl_play_tests.proofs.compile.add_rates.Goals as goal

pub push-requires : goal.push-requires
push-requires c = record {
  below = search (rules, c.loop.invariant);
  counts = tt;
  shares = subst (λ (x : Rational). x <ℚ c.args.rate) c.whole.ensures (c.is_less.ensures.less.0 c.if-is_less.true);
}
