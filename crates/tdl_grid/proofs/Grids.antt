-- The unit of a child: its grid divides it, and it is no more times as fine as what is asked than its parent's is.
use Rattle.std.proofs.Common.{◌≡◌, ℕ, ◌*◌, ◌/◌, ◌<◌, ◌≤◌, sym, ap, ◌∙◌, subst, arith}
use Rattle.std.specs.Int.{◌∣◌}
use Rattle.std.proofs.Math.Nat.{mul_assoc, mul_right_comm, mul-le-mul_right, le_of_mul-le-mul_right, le-mul_of_pos_right, dvd_of_mul-dvd-mul_left}
use Rattle.std.proofs.Math.Nat.{dvd_of_mul-dvd-mul_right}
use native.Mathlib.Nat.{mul_comm, dvd_trans, dvd-mul_right, div-mul_cancel, mul-dvd-mul}
use Rattle.tdl_fraction.specs.Divisor.{gcd}
use Rattle.tdl_fraction.specs.LowestTerms.{IsGcd-gcd}

-- at a rate p / s
pub grid_below_rate : (g p s u v : ℕ) → 0 < p → p * (g / gcd g s) ∣ u → v * p ≡ u * s → g ∣ v
grid_below_rate g p s u v h on e =
    let d = gcd g s in
    let divides = IsGcd-gcd g s in
    let whole : p * (g / d) * d ≡ g * p = mul_assoc p (g / d) d ∙ ap (λ k. p * k) (div-mul_cancel d divides.0) ∙ mul_comm p g in
    let both : p * (g / d) * d ∣ u * s = mul-dvd-mul (p * (g / d)) d on divides.1 in
    dvd_of_mul-dvd-mul_right g h (subst (λ k. g * p ∣ k) (sym e) (subst (λ k. k ∣ u * s) whole both))

-- in a step of weight w of W, where the grids of all steps divide L
pub grid_below_step : (g L W w u x : ℕ) → 0 < W → W * L ∣ u → x * W ≡ u → g ∣ L → g ∣ x * w
grid_below_step g L W w u x h on e own =
    let all : L ∣ x = dvd_of_mul-dvd-mul_left L h (subst (λ k. W * L ∣ k) (sym e ∙ mul_comm x W) on) in
    dvd_trans g own (dvd_trans L all (dvd-mul_right x w))

-- where the child is asked on f, which is at least s / p times q
pub small_below_rate : (q u v p s f most : ℕ) → 0 < p → v * p ≡ u * s → q * s ≤ f * p → u ≤ q * most → v ≤ f * most
small_below_rate q u v p s f most h e k small =
    let asked : q * most * s ≤ f * most * p = rw (mul_right_comm q most s, mul_right_comm f most p) (mul-le-mul_right most k) in
    le_of_mul-le-mul_right (omega (arith, e, mul-le-mul_right s small)) h

-- where it is asked on w times q
pub small_below_step : (q u x W w most : ℕ) → 0 < W → x * W ≡ u → u ≤ q * most → x * w ≤ q * w * most
small_below_step q u x W w most h e small =
    let least : x ≤ q * most = omega (arith, e, le-mul_of_pos_right x h) in
    rw (mul_right_comm q w most) (mul-le-mul_right w least)
