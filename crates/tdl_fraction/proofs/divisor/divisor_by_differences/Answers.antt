use Rattle.std.proofs.Common.{◌≡◌, ◌%◌, ◌∙◌, sym, ap, arith}
use Rattle.tdl_fraction.specs.Divisor.{gcd}
use Rattle.tdl_fraction.proofs.Coprime.{gcd_same}
use Rattle.tdl_fraction.proofs.Euclid.{gcd-one}
use Rattle.tdl_fraction.proofs.Twos.{gcd_odd_difference, min_odd}
use Rattle.tdl_fraction.proofs.divisor.divisor_by_differences.Goals as goal

pub loop-x-preserved : goal.loop-x-preserved
loop-x-preserved c =
    let before = c.loop-x.invariant in record {
      first = c.odd_part-x.ensures.odd;
      second = ap (λ y. y % 2) c.min-y.ensures ∙ min_odd _ _ before.first before.second;
      divisor =
          ap (gcd c.odd_part-x.result) c.min-y.ensures
          ∙ gcd_odd_difference _ _ _ _ _ before.first before.second c.abs_diff-difference.ensures c.odd_part-x.ensures.value
          ∙ before.divisor;
    }

pub returns-else-y-gt1 : goal.returns-else-y-gt1
returns-else-y-gt1 c =
    let before = c.loop-x.invariant in
    let one : c.loop-x.y ≡ 1 = omega (arith, before.second) in
    one ∙ sym (ap (gcd c.loop-x.x) one ∙ gcd-one c.loop-x.x) ∙ before.divisor

pub returns-after-loop-x : goal.returns-after-loop-x
returns-after-loop-x c =
    let same : c.loop-x.x ≡ c.loop-x.y = omega arith in
    sym (ap (λ x. gcd x c.loop-x.y) same ∙ gcd_same c.loop-x.y) ∙ c.loop-x.invariant.divisor
