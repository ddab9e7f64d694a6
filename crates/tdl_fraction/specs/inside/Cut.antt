-- A text of a number, cut at its sign and at its first `/`.
use Rattle.std.specs.Prelude.{◌≡◌, ◌≢◌, ℕ, Bool, false, List, ◌++◌, Option, slice_index, All}
use Rattle.tdl_fraction.specs.Reading.{sign, over}

pub record IsCutNumber (text : List ℕ) (is_negative : Bool) (numerator : List ℕ) (denominator : Option (List ℕ)) : Type 0 where
  pub spelled : text ≡ sign is_negative ++ (numerator ++ over denominator)
  pub signed_if_minus : is_negative ≡ false → slice_index text 0 ≢ 45
  pub first : All (λ byte. byte ≢ 47) numerator
