-- Rational numbers in lowest terms, so that equal numbers are equal values.
--     Rational          a whole number over a positive one that shares no factor with it
--     frac              the number n over d, and zero where d is 0
--     + - * /, neg_ℚ    by cross products
--     ≤ and <           by cross products, as tests and as facts
--     floor, ceil       the nearest whole number not above, and not below
--     IsMultiple        a multiple of 1 / g
use Rattle.std.specs.Prelude.{ℕ, zero, suc, ◌*◌, ◌/◌, Bool, T, cond, ℤ, pos, negsuc, ◌+ℤ◌, ◌-ℤ◌, ◌*ℤ◌, neg_ℤ, nat_abs}
use Rattle.std.specs.Int.{◌∣◌, int_div_euclid}
use lib.Signed.{lt_z, le_z}
use Rattle.tdl_fraction.specs.Divisor.{gcd, div_z, is_lowest}
use Rattle.tdl_fraction.specs.LowestTerms.{lowest_over, lowest_zero}

pub record Rational : Type 0 where
  pub num : ℤ
  pub den : ℕ
  pub lowest : T (is_lowest num den)

-- n over d in lowest terms, and zero where d is 0
unfoldable pub frac : ℤ → ℕ → Rational
frac n zero = record { num = pos 0; den = 1; lowest = lowest_zero }
frac n (suc k) =
    record { num = div_z n (gcd (nat_abs n) (suc k)); den = suc k / gcd (nat_abs n) (suc k); lowest = lowest_over n k }

-- a whole number
unfoldable pub whole : ℤ → Rational
whole n = frac n 1

infixl 6 ◌+ℚ◌
unfoldable pub ◌+ℚ◌ : Rational → Rational → Rational
x +ℚ y = frac (x.num *ℤ pos y.den +ℤ y.num *ℤ pos x.den) (x.den * y.den)

unfoldable pub neg_ℚ : Rational → Rational
neg_ℚ x = frac (neg_ℤ x.num) x.den

infixl 6 ◌-ℚ◌
unfoldable pub ◌-ℚ◌ : Rational → Rational → Rational
x -ℚ y = frac (x.num *ℤ pos y.den -ℤ y.num *ℤ pos x.den) (x.den * y.den)

infixl 7 ◌*ℚ◌
unfoldable pub ◌*ℚ◌ : Rational → Rational → Rational
x *ℚ y = frac (x.num *ℤ y.num) (x.den * y.den)

-- d over n, with n's sign above, and zero where n is 0
unfoldable pub flip : ℕ → ℤ → Rational
flip d (pos n) = frac (pos d) n
flip d (negsuc n) = frac (neg_ℤ (pos d)) (suc n)

-- one over the number, and zero for zero
unfoldable pub inverse : Rational → Rational
inverse x = flip x.den x.num

infixl 7 ◌/ℚ◌
unfoldable pub ◌/ℚ◌ : Rational → Rational → Rational
x /ℚ y = x *ℚ inverse y

unfoldable pub le_ℚ : Rational → Rational → Bool
le_ℚ x y = le_z (x.num *ℤ pos y.den) (y.num *ℤ pos x.den)

unfoldable pub lt_ℚ : Rational → Rational → Bool
lt_ℚ x y = lt_z (x.num *ℤ pos y.den) (y.num *ℤ pos x.den)

infix 4 ◌≤ℚ◌ ◌<ℚ◌
pub record ◌≤ℚ◌ (x y : Rational) : Type 0 where
  le : T (le_ℚ x y)

pub record ◌<ℚ◌ (x y : Rational) : Type 0 where
  lt : T (lt_ℚ x y)

-- the orders are what the tests decide
pub le_ℚ_yes : {x y : Rational} → T (le_ℚ x y) → x ≤ℚ y
le_ℚ_yes t = record { le = t }

pub yes_le_ℚ : {x y : Rational} → x ≤ℚ y → T (le_ℚ x y)
yes_le_ℚ h = h.le

pub lt_ℚ_yes : {x y : Rational} → T (lt_ℚ x y) → x <ℚ y
lt_ℚ_yes t = record { lt = t }

pub yes_lt_ℚ : {x y : Rational} → x <ℚ y → T (lt_ℚ x y)
yes_lt_ℚ h = h.lt

unfoldable pub min_ℚ : Rational → Rational → Rational
min_ℚ x y = cond (le_ℚ x y) x y

unfoldable pub max_ℚ : Rational → Rational → Rational
max_ℚ x y = cond (le_ℚ x y) y x

-- the greatest whole number that is not above: the quotient rounded down
unfoldable pub floor : Rational → ℤ
floor x = int_div_euclid x.num (pos x.den)

-- the least whole number that is not below
unfoldable pub ceil : Rational → ℤ
ceil x = neg_ℤ (floor (neg_ℚ x))

-- a multiple of 1 / g
pub record IsMultiple (g : ℕ) (x : Rational) : Type 0 where
  pub divides : x.den ∣ g
