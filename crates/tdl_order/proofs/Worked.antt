-- Worked orders.
use Rattle.std.proofs.Common.{◌≡◌, ℕ, pos, List, [], ◌∷◌, map, filter, refl}
use Rattle.tdl_fraction.specs.Divisor.{gcd}
use Rattle.tdl_fraction.specs.Rational.{Rational, frac, lt_ℚ}
use Rattle.tdl_order.specs.TimeOrder.{by_time, is_before, is_from}

record Mark : Type 0 where
  time : Rational
  name : ℕ

-- in quarters
abbrev mark : ℕ → ℕ → Mark
mark quarters name = record { time = frac (pos quarters) 4; name = name }

abbrev marks : List Mark
marks = mark 2 1 ∷ mark 3 2 ∷ mark 2 3 ∷ mark 0 4 ∷ mark 3 5 ∷ []

abbrev names : List Mark → List ℕ
names = map (λ (m : Mark). m.name)

ordered : names (by_time (λ m. m.time) marks) ≡ 4 ∷ 1 ∷ 3 ∷ 2 ∷ 5 ∷ []
unfolding frac lt_ℚ gcd
ordered = refl

before_half : names (filter (is_before (λ m. m.time) (frac (pos 2) 4)) marks) ≡ 4 ∷ []
unfolding frac lt_ℚ gcd
before_half = refl

from_half : names (filter (is_from (λ m. m.time) (frac (pos 2) 4)) marks) ≡ 1 ∷ 2 ∷ 3 ∷ 5 ∷ []
unfolding frac lt_ℚ gcd
from_half = refl
