use Rattle.std.proofs.Common.{◌≡◌, ℕ, ◌/◌, ◌∙◌, sym, ap, arith}
use Rattle.std.proofs.Math.Nat.{div-one, div_self}
use Rattle.tdl_fraction.specs.Divisor.{gcd}
use Rattle.tdl_fraction.proofs.Coprime.{one-gcd, zero-gcd}
use Rattle.tdl_fraction.proofs.Euclid.{gcd-one}
use Rattle.tdl_fraction.proofs.Twos.{gcd_parts, quotient_by_parts, quotient_by_twos}
use Rattle.tdl_fraction.proofs.Words128.{divisor_positive}
use Rattle.tdl_fraction.proofs.divisor.without_divisor.Goals as goal
use Rattle.tdl_fraction.proofs.divisor.without_divisor.Goals.{then-a-eq1-via-then-a-eq1, then-a-eq1-via-else-a-eq1+then-b-eq1}

divided : (n g : ℕ) → g ≡ 1 → n ≡ n / g
divided n g e = sym (ap (λ g. n / g) e ∙ div-one n)

second_one : (a b : ℕ) → b ≡ 1 → gcd a b ≡ 1
second_one a b e = ap (gcd a) e ∙ gcd-one a

pub returns-then-a-eq1-clause-first : goal.returns-then-a-eq1-clause-first
returns-then-a-eq1-clause-first c =
    divided _ _ (elim c.then-a-eq1.branch [
      | then-a-eq1-via-then-a-eq1 w ↦ one-gcd _ _ w.if-a-eq1.true
      | then-a-eq1-via-else-a-eq1+then-b-eq1 w ↦ second_one _ _ w.if-b-eq1.true
    ])

pub returns-then-a-eq1-clause-second : goal.returns-then-a-eq1-clause-second
returns-then-a-eq1-clause-second c =
    divided _ _ (elim c.then-a-eq1.branch [
      | then-a-eq1-via-then-a-eq1 w ↦ one-gcd _ _ w.if-a-eq1.true
      | then-a-eq1-via-else-a-eq1+then-b-eq1 w ↦ second_one _ _ w.if-b-eq1.true
    ])

pub returns-then-a-eq0-clause-second : goal.returns-then-a-eq0-clause-second
returns-then-a-eq0-clause-second c =
    sym (ap (λ g. c.args.b / g) (zero-gcd _ _ c.if-a-eq0.true) ∙ div_self c.requires)

pub returns-then-divisor-eq1-clause-first : goal.returns-then-divisor-eq1-clause-first
returns-then-divisor-eq1-clause-first c =
    let first = c.odd_part.ensures in
    let second = c.odd_part-2.ensures in
    quotient_by_twos c.args.a _ _ _
    (gcd_parts c.args.a c.args.b _ _ _ _ _ _ first.value second.value first.odd second.odd c.odd_divisor-divisor.ensures c.common_twos-twos.ensures)
    c.if-divisor-eq1.true

pub returns-then-divisor-eq1-clause-second : goal.returns-then-divisor-eq1-clause-second
returns-then-divisor-eq1-clause-second c =
    let first = c.odd_part.ensures in
    let second = c.odd_part-2.ensures in
    quotient_by_twos c.args.b _ _ _
    (gcd_parts c.args.a c.args.b _ _ _ _ _ _ first.value second.value first.odd second.odd c.odd_divisor-divisor.ensures c.common_twos-twos.ensures)
    c.if-divisor-eq1.true

pub nonzero_div-result : goal.nonzero_div-result
nonzero_div-result c = divisor_positive _ _ _ c.odd_divisor-divisor.ensures (omega (arith, c.odd_part-2.ensures.odd))

pub nonzero_div-result-2 : goal.nonzero_div-result-2
nonzero_div-result-2 c = divisor_positive _ _ _ c.odd_divisor-divisor.ensures (omega (arith, c.odd_part-2.ensures.odd))

pub returns-clause-first : goal.returns-clause-first
returns-clause-first c =
    let first = c.odd_part.ensures in
    let second = c.odd_part-2.ensures in
    quotient_by_parts c.args.a _ _ _
    (gcd_parts c.args.a c.args.b _ _ _ _ _ _ first.value second.value first.odd second.odd c.odd_divisor-divisor.ensures c.common_twos-twos.ensures)

pub returns-clause-second : goal.returns-clause-second
returns-clause-second c =
    let first = c.odd_part.ensures in
    let second = c.odd_part-2.ensures in
    quotient_by_parts c.args.b _ _ _
    (gcd_parts c.args.a c.args.b _ _ _ _ _ _ first.value second.value first.odd second.odd c.odd_divisor-divisor.ensures c.common_twos-twos.ensures)
