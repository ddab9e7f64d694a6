-- Weights that are counts of ten-thousandths: when `timecat` takes them, and what they are in whole
-- numbers.
use Rattle.std.proofs.Common.{◌≡◌, ℕ, zero, suc, ◌*◌, ◌/◌, ◌<◌, ◌≤◌, ◌^◌, List, [], ◌∷◌, map, pos, ◌*ℤ◌, nat_abs, ◌≤ℤ◌, refl, sym, ap, ◌∙◌, subst, arith}
use Rattle.std.proofs.Common.{mul_assoc}
use Rattle.std.specs.Int.{◌∣◌}
use Rattle.std.specs.List.{All, fold, sum}
use Rattle.std.proofs.lemmas.Int.{ints}
use Rattle.std.proofs.lemmas.List.Elements.{All-head, All-tail, All-map}
use Rattle.std.proofs.lemmas.List.Sums.{sum_by-cons}
use Rattle.std.proofs.Math.Nat.{div-mul_cancel, mul-div-mul_right, eq_of_mul-eq-mul_right}
use Rattle.tdl_fraction.specs.Divisor.{gcd}
use Rattle.tdl_fraction.specs.Rational.{frac}
use Rattle.tdl_fraction.proofs.Coprime.{gcd_scaled}
use Rattle.tdl_fraction.proofs.Multiples.{frac_multiple}
use Rattle.tdl_fraction.proofs.Order.{frac_positive}
use Rattle.tdl_fraction.proofs.Over.{Over, Over-zero, Over-frac, Over-whole, Over-plus_same, le_from_cross, cross_over}
use Rattle.tdl_expr.specs.Weights.{IsWeight, AreWeights, sum_ℚ, scaled, common_denominator, common_divisor, lowest, whole_weights, ten_thousandths}
use Rattle.tdl_expr.proofs.WeightLemmas.{over_scaled, common_positive, common_divides, common_multiples}

IsWeight-frac : (n : ℕ) → 0 < n → IsWeight (frac (pos n) 10000)
IsWeight-frac n h = record {
  positive = frac_positive n 10000 h (omega arith);
  decimals = (frac_multiple (pos n) 10000 (omega arith)).divides;
}

each_weight : (counts : List ℕ) → All (λ n. 0 < n) counts → All IsWeight (ten_thousandths counts)
each_weight counts all = All-map IsWeight (λ n. frac (pos n) 10000) counts (λ k d h. IsWeight-frac _ (all k d h))

over_sum : (counts : List ℕ) → Over (pos (sum counts)) 10000 (sum_ℚ (ten_thousandths counts))
over_sum [] = Over-zero 10000 (omega arith)
over_sum (n ∷ ns) =
    let At : ℕ → Type 0 = λ m. Over (pos m) 10000 (sum_ℚ (ten_thousandths (n ∷ ns))) in
    subst At (sym (sum_by-cons (λ (m : ℕ). m) n ns)) (Over-plus_same (Over-frac (pos n) 10000 (omega arith)) (over_sum ns))

crossed : (n : ℕ) → n ≤ 2 ^ 26 * 10000 → (pos n *ℤ pos 1) ≤ℤ (pos (2 ^ 26) *ℤ pos 10000)
crossed n h = omega (arith, ints)

-- counts above 0, of at most 2^26 in sum, are weights
pub AreWeights-ten_thousandths : (counts : List ℕ) → All (λ n. 0 < n) counts → sum counts ≤ 2 ^ 26 * 10000 → AreWeights (ten_thousandths counts)
AreWeights-ten_thousandths counts all few = record {
  each = each_weight counts all;
  share = le_from_cross (over_sum counts) (Over-whole (pos (2 ^ 26))) (crossed (sum counts) few);
}

-- ---- in whole numbers
natural : (n parts s m : ℕ) → pos n *ℤ pos parts ≡ pos s *ℤ pos m → n * parts ≡ s * m
natural n parts s m e = ap nat_abs e

-- a count is its parts times what makes the parts ten-thousandths
count_of : (parts k n : ℕ) → 0 < parts → k * parts ≡ 10000 → Over (pos (scaled parts (frac (pos n) 10000))) parts (frac (pos n) 10000)
    → n ≡ scaled parts (frac (pos n) 10000) * k
count_of parts k n h e over =
    let s = scaled parts (frac (pos n) 10000) in
    let same : n * parts ≡ s * 10000 = natural n parts s 10000 (cross_over over (Over-frac (pos n) 10000 (omega arith))) in
    eq_of_mul-eq-mul_right parts h n (s * k) (same ∙ ap (λ m. s * m) (sym e) ∙ sym (mul_assoc s k parts))

counts_of : (parts k : ℕ) (counts : List ℕ) → 0 < parts → k * parts ≡ 10000 → All (λ n. 0 < n) counts → All (λ w. w.den ∣ parts) (ten_thousandths counts)
    → counts ≡ map (λ s. s * k) (map (scaled parts) (ten_thousandths counts))
counts_of parts k [] h e all d = refl
counts_of parts k (n ∷ ns) h e all d =
    let w = frac (pos n) 10000 in
    let divides = All-head (λ w. w.den ∣ parts) w (ten_thousandths ns) d in
    let first = count_of parts k n h e (over_scaled parts w (IsWeight-frac n (All-head (λ n. 0 < n) n ns all)).positive h divides) in
    let rest = counts_of parts k ns h e (All-tail (λ n. 0 < n) n ns all) (All-tail (λ w. w.den ∣ parts) w (ten_thousandths ns) d) in
    ap (λ (m : ℕ). m ∷ ns) first ∙ ap (λ (ms : List ℕ). scaled parts w * k ∷ ms) rest

divisor_scaled : (k g : ℕ) (ns : List ℕ) → 0 < k → fold gcd (g * k) (map (λ s. s * k) ns) ≡ fold gcd g ns * k
divisor_scaled k g [] h = refl
divisor_scaled k g (n ∷ ns) h = ap (λ (m : ℕ). fold gcd m (map (λ s. s * k) ns)) (gcd_scaled g n k h) ∙ divisor_scaled k (gcd g n) ns h

quotients_scaled : (k g : ℕ) (ns : List ℕ) → 0 < k → map (λ n. n / (g * k)) (map (λ s. s * k) ns) ≡ map (λ n. n / g) ns
quotients_scaled k g [] h = refl
quotients_scaled k g (n ∷ ns) h =
    ap (λ (m : ℕ). m ∷ map (λ n. n / (g * k)) (map (λ s. s * k) ns)) (mul-div-mul_right n g h) ∙ ap (λ (ms : List ℕ). n / g ∷ ms) (quotients_scaled k g ns h)

-- a factor of all counts is of no account
lowest-scaled : (k : ℕ) (ns : List ℕ) → 0 < k → lowest (map (λ s. s * k) ns) ≡ lowest ns
lowest-scaled k ns h =
    let none : 0 ≡ 0 * k = omega arith in
    let divisor : common_divisor (map (λ s. s * k) ns) ≡ common_divisor ns * k =
    ap (λ (g : ℕ). fold gcd g (map (λ s. s * k) ns)) none ∙ divisor_scaled k 0 ns h in
    ap (λ (g : ℕ). map (λ n. n / g) (map (λ s. s * k) ns)) divisor ∙ quotients_scaled k (common_divisor ns) ns h

positive_factor : (k parts : ℕ) → k * parts ≡ 10000 → 0 < k
positive_factor zero parts e = absurd (omega arith)
positive_factor (suc k) parts e = omega arith

-- whole weights are the counts without what divides all of them
pub whole_weights-ten_thousandths : (counts : List ℕ) → All (λ n. 0 < n) counts → whole_weights (ten_thousandths counts) ≡ lowest counts
whole_weights-ten_thousandths counts all =
    let weights = ten_thousandths counts in
    let parts = common_denominator weights in
    let k = 10000 / parts in
    let e : k * parts ≡ 10000 = div-mul_cancel parts (common_divides weights (each_weight counts all)) in
    let same = counts_of parts k counts (common_positive weights) e all (common_multiples weights) in
    sym (ap lowest same ∙ lowest-scaled k (map (scaled parts) weights) (positive_factor k parts e))
