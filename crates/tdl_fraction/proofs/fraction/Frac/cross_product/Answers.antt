use Rattle.std.proofs.Common.{◌^◌, ◌≤◌, ◌∙◌, pos, ◌*ℤ◌, ap₂, arith}
use Rattle.std.specs.Prelude.{nat_abs}
use Rattle.tdl_fraction.proofs.Words128.{times_fits, times_is, times_near}
use Rattle.tdl_fraction.proofs.fraction.Frac.cross_product.Goals as goal

near : (c : goal.After-denominator) → nat_abs c.numerator.result ≤ 2 ^ 80
near c = rw c.numerator.ensures.value (omega arith)

fine : (c : goal.After-denominator) → c.denominator.result ≤ 2 ^ 44
fine c = omega arith

pub overflow_mul-result : goal.overflow_mul-result
overflow_mul-result c = times_fits c.numerator.result c.denominator.result (near c) (fine c)

pub returns-clause-value : goal.returns-clause-value
returns-clause-value c =
    times_is c.numerator.result c.denominator.result (near c) (fine c) ∙ ap₂ (λ a d. a *ℤ pos d) c.numerator.ensures.value c.denominator.ensures.value

pub returns-clause-bound : goal.returns-clause-bound
returns-clause-bound c = rw (times_is c.numerator.result c.denominator.result (near c) (fine c))
    (times_near c.numerator.result c.denominator.result (near c) (fine c))
