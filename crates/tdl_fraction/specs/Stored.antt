-- How a rational and an arc are stored: as their two parts.
use Rattle.std.specs.Prelude.{ℕ, ℤ}
use Rattle.std.specs.Coded.{Coded, code_by, coded×, coded_ℕ, coded_ℤ}
use Rattle.std.proofs.Common.{refl}
use Rattle.tdl_fraction.specs.Rational.{Rational, frac}
use Rattle.tdl_fraction.specs.Arc.{Arc}
use Rattle.tdl_fraction.specs.OwnParts.{frac-own}

-- a rational is stored as the pair of its parts
abbrev pub rational_code : Coded Rational
rational_code = code_by (ℤ × ℕ) (coded× coded_ℤ coded_ℕ) (λ x. (x.num, x.den)) (λ p. frac p.0 p.1) frac-own

-- and an arc as the pair of its ends
abbrev pub arc_code : Coded Arc
arc_code = code_by (Rational × Rational) (coded× rational_code rational_code) (λ a. (a.start, a.stop)) (λ p. record { start = p.0; stop = p.1 }) (λ _. refl)
