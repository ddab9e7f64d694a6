-- Whole weights have one unit, and no common factor.
use Rattle.std.proofs.Common.{◌≡◌, ℕ, ◌*◌, ◌/◌, ◌<◌, List, [], ◌∷◌, map, length, pos, sym, ap, ◌∙◌, subst}
use Rattle.std.specs.Int.{◌∣◌}
use Rattle.std.specs.List.{All, AllZip, fold}
use Rattle.std.proofs.lemmas.List.Elements.{All-head, All-tail}
use Rattle.std.proofs.lemmas.Nat.Gcd.{dvd-zero}
use Rattle.std.proofs.Math.Nat.{div-mul_cancel, mul-dvd-mul_right, dvd_of_mul-dvd-mul_right, eq-one_of_dvd-one, one-mul}
use Rattle.tdl_fraction.specs.Divisor.{gcd}
use Rattle.tdl_fraction.specs.LowestTerms.{IsGcd-gcd}
use Rattle.tdl_fraction.specs.Rational.{Rational, frac, whole, ◌*ℚ◌}
use Rattle.tdl_fraction.proofs.Over.{Over, Over-whole, Over-frac, Over-times, same_cross_over}
use Rattle.tdl_expr.specs.Weights.{IsWeight, scaled, common_denominator, common_divisor, whole_weights}
use Rattle.tdl_expr.proofs.JoinLemmas.{All-of_map}
use Rattle.tdl_expr.proofs.WeightLemmas.{counts, over_scaled, divides_each, common_positive, common_multiples, common_divisor_positive}

-- a weight of so many parts is that many divisors times the divisor's parts
times_unit : (parts divisor count : ℕ) (weight : Rational) → Over (pos count) parts weight → divisor ∣ count
    → weight ≡ whole (pos (count / divisor)) *ℚ frac (pos divisor) parts
times_unit parts divisor count weight over d =
    let product = Over-times (Over-whole (pos (count / divisor))) (Over-frac (pos divisor) parts over.positive) in
    let whole_again : count / divisor * divisor ≡ count = div-mul_cancel divisor d in
    let same : count * (1 * parts) ≡ count / divisor * divisor * parts =
    ap (λ m. count * m) (one-mul parts) ∙ ap (λ m. m * parts) (sym whole_again) in
    same_cross_over over product (ap pos same)

units : (parts divisor : ℕ) (weights : List Rational) → 0 < parts → All IsWeight weights → All (λ w. w.den ∣ parts) weights
    → All (λ n. divisor ∣ n) (map (scaled parts) weights)
    → AllZip (λ weight count. weight ≡ whole (pos count) *ℚ frac (pos divisor) parts) weights (map (λ n. n / divisor) (map (scaled parts) weights))
units parts divisor [] h all d each = tt
units parts divisor (w ∷ ws) h all d each =
    let over = over_scaled parts w (All-head IsWeight w ws all).positive h (All-head (λ w. w.den ∣ parts) w ws d) in (
      times_unit parts divisor (scaled parts w) w over (All-head (λ n. divisor ∣ n) (scaled parts w) (map (scaled parts) ws) each),
      units parts divisor ws h (All-tail IsWeight w ws all) (All-tail (λ w. w.den ∣ parts) w ws d)
          (All-tail (λ n. divisor ∣ n) (scaled parts w) (map (scaled parts) ws) each),
    )

pub one_unit : (weights : List Rational) → All IsWeight weights
    → (unit : Rational) × AllZip (λ weight count. weight ≡ whole (pos count) *ℚ unit) weights (whole_weights weights)
one_unit weights all =
    let parts = common_denominator weights in
    let divisor = common_divisor (counts weights) in
    (frac (pos divisor) parts, units parts divisor weights (common_positive weights) all (common_multiples weights) (divides_each 0 (counts weights)))

-- what divides all numbers divides their common divisor
divides_common : (x g : ℕ) (ns : List ℕ) → x ∣ g → All (λ n. x ∣ n) ns → x ∣ fold gcd g ns
divides_common x g [] d each = d
divides_common x g (n ∷ ns) d each =
    divides_common x (gcd g n) ns ((IsGcd-gcd g n).2 x d (All-head (λ n. x ∣ n) n ns each)) (All-tail (λ n. x ∣ n) n ns each)

pub no_factor : (weights : List Rational) → All IsWeight weights → 0 < length weights → (d : ℕ) → All (λ count. d ∣ count) (whole_weights weights) → d ≡ 1
no_factor weights all some d each =
    let ns = counts weights in
    let g = common_divisor ns in
    let quotients = All-of_map (λ n. d ∣ n) (λ n. n / g) ns each in
    let scaled_up : All (λ n. d * g ∣ n) ns =
    λ k e h. subst (λ (m : ℕ). d * g ∣ m) (div-mul_cancel g (divides_each 0 ns k e h)) (mul-dvd-mul_right _ (quotients k e h) g) in
    let product : d * g ∣ g = divides_common (d * g) 0 ns (dvd-zero (d * g)) scaled_up in
    eq-one_of_dvd-one (dvd_of_mul-dvd-mul_right d (common_divisor_positive weights some all) (subst (λ (m : ℕ). d * g ∣ m) (sym (one-mul g)) product))
