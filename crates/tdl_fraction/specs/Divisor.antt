-- Greatest common divisors, and division by them.
--     gcd            Euclid's algorithm
--     lcm            the least common multiple
--     is_lowest      d is positive and shares no factor with n
--     div_z          the quotient of a whole number by a positive one that divides it
use Rattle.std.specs.Prelude.{ℕ, zero, suc, ◌*◌, ◌/◌, ◌%◌, Bool, true, false, ◌&&◌, eqb, ltb, ℤ, pos, negsuc, neg_ℤ, nat_abs}

-- Euclid's algorithm in at most that many steps
unfoldable pub gcd_within : ℕ → ℕ → ℕ → ℕ
gcd_within zero a b = a
gcd_within (suc steps) a b = elim (eqb b 0) [ true ↦ a | false ↦ gcd_within steps b (a % b) ]

-- the greatest common divisor
unfoldable pub gcd : ℕ → ℕ → ℕ
unfolding gcd_within
gcd a b = gcd_within (suc b) a b

-- the least common multiple
unfoldable pub lcm : ℕ → ℕ → ℕ
lcm a b = a * (b / gcd a b)

abbrev pub is_lowest : ℤ → ℕ → Bool
is_lowest n d = ltb 0 d && eqb (gcd (nat_abs n) d) 1

-- a whole number divided by d, which divides it
abbrev pub div_z : ℤ → ℕ → ℤ
div_z (pos n) d = pos (n / d)
div_z (negsuc n) d = neg_ℤ (pos (suc n / d))
