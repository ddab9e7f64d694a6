-- The text of a number: `n`, or `n/d` in lowest terms.
use Rattle.std.specs.Prelude.{ℕ, ℤ, List, [], ◌∷◌, ◌++◌, ◌==◌, if◌then◌else◌}
use Rattle.std.specs.Fmt.{decimal, signed_decimal}
use Rattle.tdl_fraction.specs.Rational.{Rational}

-- n over d
abbrev pub text_of : ℤ → ℕ → List ℕ
text_of n d = signed_decimal n ++ (if d == 1 then [] else (47 ∷ decimal d))

abbrev pub print_of : Rational → List ℕ
print_of q = text_of q.num q.den
