-- The weights of steps.
--     even_steps             each row with weight 1
--     common_denominator     the least common denominator
--     scaled                 how many parts a weight is, where so many parts make 1
--     lowest                 whole counts divided by their greatest common divisor
--     whole_weights          weights brought to whole numbers by their least common denominator, and then
--                            divided by their greatest common divisor
--     steps_of               rows with weights
--     sum_ℚ                  the sum of weights
--     IsWeight, AreWeights   a weight above 0 that 10,000 makes whole; several, of bounded sum
--     ten_thousandths        weights of so many ten-thousandths
use Rattle.std.specs.Prelude.{ℕ, ◌*◌, ◌/◌, ◌^◌, pos, nat_abs, List, [], ◌∷◌, map}
use Rattle.std.specs.List.{All, fold, zip}
use Rattle.std.specs.Int.{◌∣◌}
use Rattle.tdl_fraction.specs.Divisor.{gcd, lcm}
use Rattle.tdl_fraction.specs.Rational.{Rational, frac, whole, ◌+ℚ◌, ◌≤ℚ◌, ◌<ℚ◌}
use Rattle.tdl_expr.specs.declared.ids.NodeId.{NodeId}
use Rattle.tdl_expr.specs.declared.steps.Step.{Step}

abbrev pub even_steps : List NodeId → List Step
even_steps ids = map (λ id. record { weight = 1; child = id }) ids

abbrev pub common_denominator : List Rational → ℕ
common_denominator weights = fold (λ common weight. lcm common weight.den) 1 weights

abbrev pub scaled : ℕ → Rational → ℕ
scaled parts weight = nat_abs weight.num * (parts / weight.den)

abbrev pub common_divisor : List ℕ → ℕ
common_divisor counts = fold gcd 0 counts

abbrev pub lowest : List ℕ → List ℕ
lowest counts = map (λ count. count / common_divisor counts) counts

abbrev pub whole_weights : List Rational → List ℕ
whole_weights weights = lowest (map (scaled (common_denominator weights)) weights)

-- rows with weights, as many as both are
abbrev pub steps_of : List ℕ → List NodeId → List Step
steps_of weights ids = map (λ p. record { weight = p.0; child = p.1 }) (zip weights ids)

abbrev pub sum_ℚ : List Rational → Rational
sum_ℚ [] = whole (pos 0)
sum_ℚ (weight ∷ weights) = weight +ℚ sum_ℚ weights

pub record IsWeight (weight : Rational) : Type 0 where
  pub positive : whole (pos 0) <ℚ weight
  pub decimals : weight.den ∣ 10000

-- such weights, with a sum of at most 2^26
pub record AreWeights (weights : List Rational) : Type 0 where
  pub each : All IsWeight weights
  pub share : sum_ℚ weights ≤ℚ whole (pos (2 ^ 26))

abbrev pub ten_thousandths : List ℕ → List Rational
ten_thousandths counts = map (λ count. frac (pos count) 10000) counts
