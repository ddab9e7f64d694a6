-- How a span is stored: as the pair of its counts.
use Rattle.std.specs.Prelude.{ℤ}
use Rattle.std.specs.Coded.{Coded, code_by, coded×, coded_ℤ}
use Rattle.std.proofs.Common.{refl}
use Rattle.tdl_grid.specs.Span.{Span}

abbrev pub span_code : Coded Span
span_code = code_by (ℤ × ℤ) (coded× coded_ℤ coded_ℤ) (λ s. (s.start, s.stop)) (λ p. record { start = p.0; stop = p.1 }) (λ _. refl)
