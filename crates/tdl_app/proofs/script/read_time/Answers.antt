use Rattle.std.proofs.Common.{pos, refl, subst}
use Rattle.tdl_fraction.specs.Rational.{Rational, whole, ◌≤ℚ◌, ◌<ℚ◌}
use Rattle.tdl_fraction.proofs.Order.{clash_ℚ}
use Rattle.tdl_app.proofs.script.read_time.Goals as goal

pub returns-then-is_less-clause-none : goal.returns-then-is_less-clause-none
returns-then-is_less-clause-none c = λ time h.
    let below = subst (λ (x : Rational). c.in_ok-time.time <ℚ x) c.whole.ensures (c.if-is_less.ensures.less.0 refl) in
    clash_ℚ below (subst (λ (x : Rational). whole (pos 0) ≤ℚ x) (c.in_ok-time.ensures.only time h.reads) h.from_zero)

pub returns-clause-some : goal.returns-clause-some
returns-clause-some c = record {
  reads = c.in_ok-time.ensures.reads;
  in_range = c.in_ok-time.ensures.in_range;
  from_zero = subst (λ (x : Rational). x ≤ℚ c.in_ok-time.time) c.whole.ensures (c.if-is_less.ensures.not_less.0 refl);
}
