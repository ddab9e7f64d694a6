-- Whether two rationals, or two arcs, are the same, as a test.
use Rattle.std.specs.Prelude.{Bool, nat_eq}
use Rattle.std.specs.Ordering.{on, eq_of_both, int_eq}
use Rattle.tdl_fraction.specs.Arc.{Arc}
use Rattle.tdl_fraction.specs.Rational.{Rational}

-- both parts are the same
abbrev pub same_ℚ : Rational → Rational → Bool
same_ℚ = eq_of_both (on (λ x. x.num) int_eq) (on (λ x. x.den) nat_eq)

-- both ends are the same
abbrev pub same_arc : Arc → Arc → Bool
same_arc = eq_of_both (on (λ a. a.start) same_ℚ) (on (λ a. a.stop) same_ℚ)
