use Rattle.std.proofs.Common.{◌^◌, ◌≤◌, ◌∙◌, sym, arith}
use Rattle.std.specs.Prelude.{nat_abs}
use Rattle.tdl_fraction.proofs.Comparisons.{words_same, same_by_den}
use Rattle.tdl_fraction.proofs.fraction.FracPartialEq.eq.Goals as goal

pub returns-then-numerator-clause-same : goal.returns-then-numerator-clause-same
returns-then-numerator-clause-same c =
    let n = c.numerator.ensures in
    let m = c.numerator-2.ensures in
    let near : nat_abs c.numerator.result ≤ 2 ^ 124 = rw n.value (omega arith) in
    let other_near : nat_abs c.numerator-2.result ≤ 2 ^ 124 = rw m.value (omega arith) in
    same_by_den _ _ _ _ c.denominator.ensures.value c.denominator-then-numerator.ensures.value
    (sym n.value ∙ words_same c.numerator.result c.numerator-2.result near other_near c.if-numerator.true ∙ m.value)
