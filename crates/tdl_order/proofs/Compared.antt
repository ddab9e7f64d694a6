-- What a comparison of two times tells.
--     is_lt-compared     it answers that the first is less just where it is earlier
use Rattle.std.proofs.Common.{◌≡◌, Ordering, Less, Equal, Greater, is_lt, sym}
use Rattle.std.specs.Ordering.{MatchOrdering}
use Rattle.tdl_fraction.specs.Rational.{Rational, lt_ℚ, ◌<ℚ◌}
use Rattle.tdl_fraction.proofs.Over.{lt_ℚ-true, lt_ℚ-false}
use Rattle.tdl_fraction.proofs.Order.{≤ℚ_from_<ℚ, ≤ℚ_from_same}

pub is_lt-compared : (x y : Rational) (o : Ordering) → MatchOrdering o (x <ℚ y) (x ≡ y) (y <ℚ x) → is_lt o ≡ lt_ℚ x y
is_lt-compared x y Less h = sym ((lt_ℚ-true x y).1 h)
is_lt-compared x y Equal h = sym ((lt_ℚ-false x y).1 (≤ℚ_from_same (sym h)))
is_lt-compared x y Greater h = sym ((lt_ℚ-false x y).1 (≤ℚ_from_<ℚ h))
