-- How low and how high the values of an argument are.
--     ends_of          the least and the greatest of whole numbers; none where there is no number
--     AreExtremes      a span has the least and the greatest of what is above the line in the values
use Rattle.std.specs.Prelude.{◌≡◌, ℤ, Option, Some, None, List, [], ◌∷◌, map}
use Rattle.std.specs.Int.{int_min, int_max}
use Rattle.tdl_fraction.specs.Rational.{Rational}
use Rattle.tdl_mini_tree.specs.declared.extremes.Extremes.{Extremes}

-- the ends of what two pairs of ends enclose
abbrev pub wider : Option (ℤ × ℤ) → Option (ℤ × ℤ) → Option (ℤ × ℤ)
wider None other = other
wider (Some ends) None = Some ends
wider (Some ends) (Some other) = Some (int_min ends.0 other.0, int_max ends.1 other.1)

abbrev pub ends_of : List ℤ → Option (ℤ × ℤ)
ends_of [] = None
ends_of (n ∷ others) = wider (Some (n, n)) (ends_of others)

abbrev pub numerators : List Rational → List ℤ
numerators values = map (λ x. x.num) values

abbrev pub AreExtremes : Extremes → List Rational → Type 0
AreExtremes span values = span.ends ≡ ends_of (numerators values)
