-- What number a text writes.
--     Writes      an optional `-`, 1 to 25 decimal digits, and optionally `/` and 1 to 14 decimal digits
--     Reads       the number over its denominator, which is not 0
use Rattle.std.specs.Prelude.{◌≡◌, ◌≢◌, ℕ, ◌≤◌, Bool, true, false, List, [], ◌∷◌, ◌++◌, length, Option, Some, None, ℤ, pos, neg_ℤ}
use Rattle.std.specs.Option.{ForSome}
use Rattle.std.specs.Str.Parse.{IsNumeral, digits_value}
use Rattle.tdl_fraction.specs.Rational.{Rational, frac}

-- one to `most` decimal digits
pub record IsShortNumeral (most : ℕ) (digits : List ℕ) : Type 0 where
  pub numeral : IsNumeral 10 digits
  pub short : length digits ≤ most

-- the sign of a number as it is written: `-`, or nothing
abbrev pub sign : Bool → List ℕ
sign true = 45 ∷ []
sign false = []

-- what stands after the numerator: `/` and digits, or nothing
abbrev pub over : Option (List ℕ) → List ℕ
over (Some digits) = 47 ∷ digits
over None = []

-- the whole number with this sign
abbrev pub signed : Bool → ℕ → ℤ
signed true n = neg_ℤ (pos n)
signed false n = pos n

-- the denominator that these digits write, 1 where there are none
abbrev pub denominator_of : Option (List ℕ) → ℕ
denominator_of (Some digits) = digits_value 10 digits
denominator_of None = 1

-- the text writes n over d
pub record Writes (text : List ℕ) (n : ℤ) (d : ℕ) : Type 0 where
  pub is_negative : Bool
  pub numerator : List ℕ
  pub denominator : Option (List ℕ)
  pub spelled : text ≡ sign is_negative ++ (numerator ++ over denominator)
  pub numerator_fits : IsShortNumeral 25 numerator
  pub denominator_fits : ForSome denominator (IsShortNumeral 14)
  pub num : n ≡ signed is_negative (digits_value 10 numerator)
  pub den : d ≡ denominator_of denominator

-- the text writes the number q, in lowest terms or not
pub record Reads (text : List ℕ) (q : Rational) : Type 0 where
  pub n : ℤ
  pub d : ℕ
  pub writes : Writes text n d
  pub nonzero : d ≢ 0
  pub value : q ≡ frac n d
