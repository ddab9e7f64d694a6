-- Weights in whole numbers: their common denominator is small, and so are they.
use Rattle.std.proofs.Common.{◌≡◌, ℕ, zero, suc, ◌+◌, ◌*◌, ◌/◌, ◌<◌, ◌≤◌, ◌^◌, List, [], ◌∷◌, map, length, ℤ, pos, negsuc, ◌*ℤ◌, nat_abs, ◌≤ℤ◌, ◌<ℤ◌, refl}
use Rattle.std.proofs.Common.{sym, ap, ◌∙◌, subst, arith, mul-pos, mul_assoc, take, get_or}
use Rattle.std.specs.Int.{◌∣◌}
use Rattle.std.specs.List.{All, fold, sum}
use Rattle.std.proofs.lemmas.Int.{ints}
use Rattle.std.proofs.lemmas.List.Elements.{All-head, All-tail, All-cons, All-map, All-take}
use Rattle.std.proofs.lemmas.List.{length-map}
use Rattle.std.proofs.lemmas.List.Sums.{sum_by-cons, fold_more}
use Rattle.std.proofs.lemmas.Nat.Gcd.{dvd_trans, dvd_refl, le_of_dvd}
use Rattle.std.proofs.Math.Nat.{div-mul_cancel, div-le_self, one-dvd, pos_of_dvd_of_pos}
use Rattle.tdl_fraction.specs.Divisor.{gcd, lcm}
use Rattle.tdl_fraction.specs.LowestTerms.{IsGcd-gcd}
use Rattle.tdl_fraction.specs.Rational.{Rational, whole, ◌+ℚ◌, ◌≤ℚ◌, ◌<ℚ◌}
use Rattle.tdl_fraction.proofs.Coprime.{divides_lcm_left, divides_lcm_right, lcm_divides, lcm_positive}
use Rattle.tdl_fraction.proofs.Over.{Over, Over-self, Over-zero, Over-whole, Over-plus_same, den_positive, cross_from_le, cross_from_lt}
use Rattle.tdl_expr.specs.Weights.{IsWeight, sum_ℚ, scaled, common_denominator, common_divisor, lowest}

-- ---- the common denominator
abbrev on : ℕ → List Rational → ℕ
on common weights = fold (λ common weight. lcm common weight.den) common weights

on_positive : (common : ℕ) (weights : List Rational) → 0 < common → 0 < on common weights
on_positive common [] p = p
on_positive common (w ∷ ws) p = on_positive (lcm common w.den) ws (lcm_positive common w.den p (den_positive w))

on_divides : (common m : ℕ) (weights : List Rational) → common ∣ m → All (λ w. w.den ∣ m) weights → on common weights ∣ m
on_divides common m [] d all = d
on_divides common m (w ∷ ws) d all =
    on_divides (lcm common w.den) m ws (lcm_divides common w.den m (den_positive w) d (All-head (λ w. w.den ∣ m) w ws all)) (All-tail (λ w. w.den ∣ m) w ws all)

on_multiple : (common : ℕ) (weights : List Rational) → common ∣ on common weights
on_multiple common [] = dvd_refl common
on_multiple common (w ∷ ws) = dvd_trans common (divides_lcm_left common w.den) (on_multiple (lcm common w.den) ws)

on_multiples : (common : ℕ) (weights : List Rational) → All (λ w. w.den ∣ on common weights) weights
on_multiples common [] = λ k d h. absurd (omega arith)
on_multiples common (w ∷ ws) =
    All-cons (λ v. v.den ∣ on (lcm common w.den) ws) w ws (dvd_trans w.den (divides_lcm_right common w.den) (on_multiple (lcm common w.den) ws))
    (on_multiples (lcm common w.den) ws)

decimals : (weights : List Rational) → All IsWeight weights → All (λ w. w.den ∣ 10000) weights
decimals weights all = λ k d h. (all k d h).decimals

pub common_positive : (weights : List Rational) → 0 < common_denominator weights
common_positive weights = on_positive 1 weights (omega arith)

pub common_divides : (weights : List Rational) → All IsWeight weights → common_denominator weights ∣ 10000
common_divides weights all = on_divides 1 10000 weights (one-dvd 10000) (decimals weights all)

pub common_small : (weights : List Rational) → All IsWeight weights → common_denominator weights ≤ 10000
common_small weights all = le_of_dvd (omega arith) (common_divides weights all)

pub common_multiples : (weights : List Rational) → All (λ w. w.den ∣ common_denominator weights) weights
common_multiples weights = on_multiples 1 weights

-- ---- counts
-- a positive number is positive above
not_negative : (z : ℤ) (d : ℕ) → (pos 0 *ℤ pos d) <ℤ (z *ℤ pos 1) → (pos (nat_abs z) ≡ z) × (0 < nat_abs z)
not_negative (pos n) d h = (refl, omega (arith, ints))
not_negative (negsuc n) d h = absurd (omega (arith, ints))

pub num_positive : (w : Rational) → whole (pos 0) <ℚ w → (pos (nat_abs w.num) ≡ w.num) × (0 < nat_abs w.num)
num_positive w p = not_negative w.num w.den (cross_from_lt (Over-whole (pos 0)) (Over-self w) p)

shared_out : (n parts den : ℕ) → den ∣ parts → n * parts ≡ n * (parts / den) * den
shared_out n parts den d = let e : parts / den * den ≡ parts = div-mul_cancel den d in sym (mul_assoc n (parts / den) den ∙ ap (λ m. n * m) e)

pub over_scaled : (parts : ℕ) (w : Rational) → whole (pos 0) <ℚ w → 0 < parts → w.den ∣ parts → Over (pos (scaled parts w)) parts w
over_scaled parts w p h d = record {
  positive = h;
  cross = ap (λ z. z *ℤ pos parts) (sym (num_positive w p).0) ∙ ap pos (shared_out (nat_abs w.num) parts w.den d);
}

factor_positive : (q k : ℕ) → 0 < q * k → 0 < q
factor_positive zero k h = absurd (omega arith)
factor_positive (suc q) k h = omega arith

scaled_positive : (parts : ℕ) (w : Rational) → whole (pos 0) <ℚ w → 0 < parts → w.den ∣ parts → 0 < scaled parts w
scaled_positive parts w p h d =
    let e : parts / w.den * w.den ≡ parts = div-mul_cancel w.den d in
    mul-pos (num_positive w p).1 (factor_positive (parts / w.den) w.den (subst (λ (x : ℕ). 0 < x) (sym e) h))

-- counts sum to the sum's count
over_sum : (parts : ℕ) (weights : List Rational) → 0 < parts → All IsWeight weights → All (λ w. w.den ∣ parts) weights
    → Over (pos (sum (map (scaled parts) weights))) parts (sum_ℚ weights)
over_sum parts [] h all d = Over-zero parts h
over_sum parts (w ∷ ws) h all d =
    let first = over_scaled parts w (All-head IsWeight w ws all).positive h (All-head (λ w. w.den ∣ parts) w ws d) in
    let rest = over_sum parts ws h (All-tail IsWeight w ws all) (All-tail (λ w. w.den ∣ parts) w ws d) in
    let At : ℕ → Type 0 = λ n. Over (pos n) parts (w +ℚ sum_ℚ ws) in
    subst At (sym (sum_by-cons (λ (n : ℕ). n) (scaled parts w) (map (scaled parts) ws))) (Over-plus_same first rest)

abbrev pub counts : List Rational → List ℕ
counts weights = map (scaled (common_denominator weights)) weights

pub counts_positive : (weights : List Rational) → All IsWeight weights → All (λ count. 0 < count) (counts weights)
counts_positive weights all =
    All-map (λ count. 0 < count) (scaled (common_denominator weights)) weights
    (λ k d h. scaled_positive (common_denominator weights) _ (all k d h).positive (common_positive weights) (common_multiples weights k d h))

small : (s parts : ℕ) → (pos s *ℤ pos 1) ≤ℤ (pos (2 ^ 26) *ℤ pos parts) → parts ≤ 10000 → s ≤ 2 ^ 40
small s parts h p = omega (arith, ints)

pub counts_small : (weights : List Rational) → All IsWeight weights → sum_ℚ weights ≤ℚ whole (pos (2 ^ 26)) → sum (counts weights) ≤ 2 ^ 40
counts_small weights all share =
    let over = over_sum (common_denominator weights) weights (common_positive weights) all (common_multiples weights) in
    small (sum (counts weights)) (common_denominator weights) (cross_from_le over (Over-whole (pos (2 ^ 26))) share) (common_small weights all)

each_small : (parts m : ℕ) (weights : List Rational) → sum (map (scaled parts) weights) ≤ m → All (λ w. scaled parts w ≤ m) weights
each_small parts m [] h = λ k d lt. absurd (omega arith)
each_small parts m (w ∷ ws) h =
    let e : sum (map (scaled parts) (w ∷ ws)) ≡ scaled parts w + sum (map (scaled parts) ws) =
    sum_by-cons (λ (n : ℕ). n) (scaled parts w) (map (scaled parts) ws) in
    All-cons (λ w. scaled parts w ≤ m) w ws (omega arith) (each_small parts m ws (omega arith))

pub counts_fit : (weights : List Rational) → All IsWeight weights → sum_ℚ weights ≤ℚ whole (pos (2 ^ 26))
    → All (λ w. scaled (common_denominator weights) w < 2 ^ 64) weights
counts_fit weights all share =
    let small = each_small (common_denominator weights) (2 ^ 40) weights (counts_small weights all share) in
    λ k d h. let one = small k d h in omega arith

-- the common denominator so far, with one weight more
pub common_step : (weights : List Rational) (i : ℕ) (d : Rational) → i < length weights → All IsWeight weights
    → lcm (common_denominator (take i weights)) (get_or weights i d).den < 2 ^ 64
common_step weights i d h all =
    let more = fold_more (λ common weight. lcm common weight.den) 1 weights i d h in
    let few = common_small (take (i + 1) weights) (All-take IsWeight (i + 1) weights all) in
    omega (arith, few, more)

-- ---- the common divisor
divides_first : (g : ℕ) (ns : List ℕ) → fold gcd g ns ∣ g
divides_first g [] = dvd_refl g
divides_first g (n ∷ ns) = dvd_trans (fold gcd (gcd g n) ns) (divides_first (gcd g n) ns) (IsGcd-gcd g n).0

pub divides_each : (g : ℕ) (ns : List ℕ) → All (λ n. fold gcd g ns ∣ n) ns
divides_each g [] = λ k d h. absurd (omega arith)
divides_each g (n ∷ ns) =
    All-cons (λ m. fold gcd (gcd g n) ns ∣ m) n ns (dvd_trans (fold gcd (gcd g n) ns) (divides_first (gcd g n) ns) (IsGcd-gcd g n).1)
    (divides_each (gcd g n) ns)

pub divisor_positive : (ns : List ℕ) → 0 < length ns → All (λ n. 0 < n) ns → 0 < common_divisor ns
divisor_positive [] h all = absurd (omega arith)
divisor_positive (n ∷ ns) h all =
    pos_of_dvd_of_pos (All-head (λ m. fold gcd 0 (n ∷ ns) ∣ m) n ns (divides_each 0 (n ∷ ns))) (All-head (λ m. 0 < m) n ns all)

pub common_divisor_positive : (weights : List Rational) → 0 < length weights → All IsWeight weights → 0 < common_divisor (counts weights)
common_divisor_positive weights some all =
    divisor_positive (counts weights) (omega (arith, length-map weights (scaled (common_denominator weights)))) (counts_positive weights all)

-- ---- lowest counts
quotient_positive : (n g : ℕ) → g ∣ n → 0 < n → 0 < n / g
quotient_positive n g d h =
    let e : n / g * g ≡ n = div-mul_cancel g d in factor_positive (n / g) g (subst (λ (x : ℕ). 0 < x) (sym e) h)

pub lowest_positive : (ns : List ℕ) → All (λ n. 0 < n) ns → All (λ n. 0 < n) (lowest ns)
lowest_positive ns all =
    All-map (λ n. 0 < n) (λ n. n / common_divisor ns) ns (λ k d h. quotient_positive _ (common_divisor ns) (divides_each 0 ns k d h) (all k d h))

quotients_sum : (g : ℕ) (ns : List ℕ) → sum (map (λ n. n / g) ns) ≤ sum ns
quotients_sum g [] = omega arith
quotients_sum g (n ∷ ns) =
    let le = quotients_sum g ns in
    let one = div-le_self n g in
    omega (arith, sum_by-cons (λ (m : ℕ). m) (n / g) (map (λ n. n / g) ns), sum_by-cons (λ (m : ℕ). m) n ns)

pub lowest_sum : (ns : List ℕ) → sum ns ≤ 2 ^ 40 → sum (lowest ns) ≤ 2 ^ 40
lowest_sum ns few =
    let le = quotients_sum (common_divisor ns) ns in
    omega arith
