use Rattle.std.proofs.Common.{◌∙◌, sym, ap}
use Rattle.tdl_fraction.specs.Divisor.{gcd}
use Rattle.tdl_fraction.proofs.Euclid.{gcd-mod, gcd-one, gcd-zero}
use Rattle.tdl_fraction.proofs.Coprime.{one-gcd}
use Rattle.tdl_fraction.proofs.Twos.{gcd_odd}
use Rattle.tdl_fraction.proofs.divisor.odd_divisor.Goals as goal
use Rattle.tdl_fraction.proofs.divisor.odd_divisor.Goals.{then-a-eq1-via-then-a-eq1, then-a-eq1-via-else-a-eq1+then-b-eq1}

pub returns-then-a-eq1 : goal.returns-then-a-eq1
returns-then-a-eq1 c =
    elim c.then-a-eq1.branch [
      | then-a-eq1-via-then-a-eq1 w ↦ sym (one-gcd _ _ w.if-a-eq1.true)
      | then-a-eq1-via-else-a-eq1+then-b-eq1 w ↦ sym (ap (gcd c.args.a) w.if-b-eq1.true ∙ gcd-one c.args.a)
    ]

pub returns-then-rest-eq0 : goal.returns-then-rest-eq0
returns-then-rest-eq0 c = sym (gcd-zero c.args.b _ c.if-rest-eq0.true) ∙ gcd-mod c.args.a c.args.b

pub returns : goal.returns
returns c =
    c.divisor_by_differences.ensures ∙ sym (gcd_odd c.args.b c.odd_part.result _ c.requires.second) ∙ ap (gcd c.args.b) (sym c.odd_part.ensures.value)
    ∙ gcd-mod c.args.a c.args.b
