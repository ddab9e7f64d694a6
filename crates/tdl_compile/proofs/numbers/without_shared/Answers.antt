use Rattle.std.proofs.Common.{arith}
use Rattle.tdl_expr.proofs.Numbers.{gcd_positive_left}
use Rattle.tdl_fraction.proofs.Coprime.{one-gcd}
use Rattle.tdl_compile.proofs.Words.{quotient_whole, gcd_one_second}
use Rattle.tdl_compile.proofs.numbers.without_shared.Goals as goal
use Rattle.tdl_compile.proofs.numbers.without_shared.Goals.{then-number-eq1-via-then-number-eq1, then-number-eq1-via-else-number-eq1+then-other-eq1}

pub returns-then-number-eq1 : goal.returns-then-number-eq1
returns-then-number-eq1 c =
    quotient_whole _ _ (elim c.then-number-eq1.branch [
      | then-number-eq1-via-then-number-eq1 w ↦ one-gcd _ _ w.if-number-eq1.true
      | then-number-eq1-via-else-number-eq1+then-other-eq1 w ↦ gcd_one_second _ _ w.if-other-eq1.true
    ])

pub nonzero_div-result : goal.nonzero_div-result
nonzero_div-result c = omega (arith, gcd_positive_left c.args.number c.args.other c.requires, c.greatest_divisor_of_word.ensures)
