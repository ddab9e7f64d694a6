use Rattle.std.proofs.Common.{◌≡◌, sym, arith, subst}
use Rattle.std.specs.Int.{◌∣◌}
use Rattle.std.proofs.lemmas.Nat.Gcd.{dvd_refl, dvd_of_mod-eq-zero}
use Rattle.std.proofs.Math.Nat.{one-dvd}
use Rattle.tdl_fraction.specs.Divisor.{lcm}
use Rattle.tdl_fraction.proofs.Euclid.{gcd_positive}
use Rattle.tdl_compile.proofs.Words.{multiple_word, multiple_positive, multiple_divided, multiple_of_one}
use Rattle.tdl_compile.proofs.numbers.least_multiple.Goals as goal
use Rattle.tdl_compile.proofs.numbers.least_multiple.Goals.{then-a-eq1-via-then-a-eq1, then-a-eq1-via-else-a-eq1+then-a-b}

pub returns-then-a-eq1-clause-value : goal.returns-then-a-eq1-clause-value
returns-then-a-eq1-clause-value c =
    let a = c.args.a in
    let b = c.args.b in
    let divides : a ∣ b = elim c.then-a-eq1.branch [
      | then-a-eq1-via-then-a-eq1 w ↦ subst (λ n. n ∣ b) (sym w.if-a-eq1.true) (one-dvd b)
      | then-a-eq1-via-else-a-eq1+then-a-b w ↦ subst (λ n. a ∣ n) w.if-a-b.true (dvd_refl a)
    ] in
    let same : lcm a b ≡ b = multiple_divided a b divides in
    omega arith

pub returns-then-b-eq1-clause-value : goal.returns-then-b-eq1-clause-value
returns-then-b-eq1-clause-value c = omega (arith, multiple_of_one c.args.a c.args.b c.if-b-eq1.true)

pub returns-then-b-a-eq0-clause-value : goal.returns-then-b-a-eq0-clause-value
returns-then-b-a-eq0-clause-value c =
    omega (arith, multiple_divided c.args.a c.args.b (dvd_of_mod-eq-zero c.args.a c.if-b-a-eq0.true))

pub nonzero_div-b : goal.nonzero_div-b
nonzero_div-b c = omega (arith, gcd_positive c.args.a c.args.b c.requires.second, c.greatest_divisor_of_words.ensures)

pub returns : goal.returns
returns c =
    let value = multiple_word c.args.a c.args.b _ _ c.greatest_divisor_of_words.ensures c.saturating_mul.ensures in
    record { value = value; positive = multiple_positive c.args.a c.args.b _ c.requires.first c.requires.second value }
