-- What whole weights are, said of the weights that they stand for.
use Rattle.std.specs.Prelude.{◌≡◌, ℕ, ◌*◌, ◌^◌, ◌<◌, ◌≤◌, pos, List, length}
use Rattle.std.specs.Int.{◌∣◌}
use Rattle.std.specs.List.{All, AllZip, sum}
use Rattle.tdl_fraction.specs.Rational.{Rational, whole, ◌*ℚ◌}
use Rattle.tdl_expr.specs.Weights.{IsWeight, AreWeights, lowest, whole_weights, ten_thousandths}

pub record WeightLaws : Type 0 where
  -- each weight is its whole weight times a unit, which is the same for all
  pub one_unit : (weights : List Rational) → All IsWeight weights
      → (unit : Rational) × AllZip (λ weight count. weight ≡ whole (pos count) *ℚ unit) weights (whole_weights weights)
  -- no number but 1 divides all of them
  pub no_factor : (weights : List Rational) → All IsWeight weights → 0 < length weights
      → (d : ℕ) → All (λ count. d ∣ count) (whole_weights weights) → d ≡ 1
  -- counts of ten-thousandths, each above 0 and of at most 2^26 in sum, are weights
  pub decimals : (counts : List ℕ) → All (λ count. 0 < count) counts → sum counts ≤ 2 ^ 26 * 10000 → AreWeights (ten_thousandths counts)
  -- and in whole numbers they are the counts, divided by what divides all of them
  pub of_decimals : (counts : List ℕ) → All (λ count. 0 < count) counts → whole_weights (ten_thousandths counts) ≡ lowest counts
