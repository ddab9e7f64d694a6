use Rattle.std.proofs.Common.{◌≡◌, ◌≤◌, ◌*◌, ◌%◌, ◌^◌, pos, nat_abs, ◌∙◌, ap, subst, arith}
use Rattle.tdl_fraction.specs.Rational.{Rational, whole, ◌≤ℚ◌}
use Rattle.tdl_fraction.specs.Units.{tick_units}
use Rattle.tdl_fraction.proofs.Words128.{near_is}
use Rattle.tdl_fraction.proofs.UnitCounts.{count_is, count_bound, unit_small, not_below_zero, not_off_grid, whole_units}
use Rattle.tdl_fraction.proofs.units.units_of.Goals as goal
use Rattle.tdl_fraction.proofs.units.units_of.Goals.{After-unsigned_abs, then-is_less-via-then-is_less, then-is_less-via-else-is_less+then-not-is_whole_count}

size : (c : After-unsigned_abs) → c.unsigned_abs.result ≡ nat_abs c.args.time.num
size c =
    let bounds = c.numerator.ensures.in_range in
    let near : nat_abs c.numerator.result ≤ 2 ^ 124 = rw c.numerator.ensures.value (omega (arith, bounds.fine, bounds.near)) in
    c.unsigned_abs.ensures.value ∙ ap nat_abs (near_is c.numerator.result near ∙ c.numerator.ensures.value)

small : (c : After-unsigned_abs) → c.unsigned_abs.result ≤ 2 ^ 36 * c.denominator-unit.result
small c = rw (size c, c.denominator-unit.ensures.value) c.numerator.ensures.in_range.near

divides : (c : After-unsigned_abs) → tick_units % c.denominator-unit.result ≡ 0
divides c = whole_units c.args.time c.denominator-unit.result c.is_whole_count.result c.denominator-unit.ensures.value c.if-not-is_whole_count.false
    c.is_whole_count.ensures

from_zero : (c : After-unsigned_abs) → whole (pos 0) ≤ℚ c.args.time
from_zero c = subst (λ (x : Rational). x ≤ℚ c.args.time) c.whole.ensures (c.is_less.ensures.not_less.0 c.if-is_less.false)

pub returns-then-is_less-clause-none : goal.returns-then-is_less-clause-none
returns-then-is_less-clause-none c =
    elim c.then-is_less.branch [
      | then-is_less-via-then-is_less w ↦ λ units. not_below_zero c.args.time c.whole.result units c.whole.ensures (c.is_less.ensures.less.0 w.if-is_less.true)
      | then-is_less-via-else-is_less+then-not-is_whole_count w ↦
          λ units. not_off_grid c.args.time units w.is_whole_count.result w.if-not-is_whole_count.true w.is_whole_count.ensures
    ]

pub overflow_cast-result : goal.overflow_cast-result
overflow_cast-result c = omega (arith, small c, unit_small c.denominator-unit.result c.denominator-unit.ensures.positive (divides c))

pub overflow_mul-result : goal.overflow_mul-result
overflow_mul-result c = omega (arith, count_bound c.unsigned_abs.result c.denominator-unit.result c.denominator-unit.ensures.positive (small c) (divides c))

pub returns-clause-in_range : goal.returns-clause-in_range
returns-clause-in_range c = count_bound c.unsigned_abs.result c.denominator-unit.result c.denominator-unit.ensures.positive (small c) (divides c)

pub returns-clause-some : goal.returns-clause-some
returns-clause-some c = count_is c.args.time c.unsigned_abs.result c.denominator-unit.result (from_zero c) (size c) c.denominator-unit.ensures.value (divides c)
