-- The numbers that digits write, digit by digit.
use Rattle.std.proofs.Common.{◌≡◌, ℕ, ◌+◌, ◌*◌, ◌-◌, ◌^◌, ◌<◌, ◌≤◌, Bool, true, false, nat_le, List, [], ◌∷◌, length, take, get_or, refl, ap, sym, ◌∙◌, arith}
use Rattle.std.specs.List.{list_all}
use Rattle.std.specs.Int.{IsInRange}
use Rattle.std.specs.Char.{is_ascii_digit, digit_value}
use Rattle.std.specs.Str.Parse.{AllDigits, digits_value}
use Rattle.std.proofs.lemmas.Bool.{and_parts}
use Rattle.std.proofs.lemmas.Bool.Decides.{nat_tests}
use Rattle.std.proofs.lemmas.Int.Digits.{digits_value_more}
use Rattle.std.proofs.lemmas.List.Folds.{list_all_at}
use Rattle.std.proofs.lemmas.Str.{digit_value_digit}
use Rattle.std.proofs.lemmas.Str.Parse.{digits_value_short, digits_value-take-le, numerals_by_value, tells_digits}

digit_there : (digits : List ℕ) (i : ℕ) → list_all is_ascii_digit digits ≡ true → i < length digits → is_ascii_digit (get_or digits i 0) ≡ true
digit_there digits i all inside = here (is_ascii_digit (get_or digits i 0)) refl
  where
    here : (b : Bool) → is_ascii_digit (get_or digits i 0) ≡ b → b ≡ true
    here true e = refl
    here false e = sym (list_all_at is_ascii_digit digits i 0 inside e) ∙ all

in_range : (c : ℕ) → is_ascii_digit c ≡ true → IsInRange 48 57 c
in_range c h = grind (arith, nat_tests)

pub digit_in_range : (digits : List ℕ) (i c : ℕ) → list_all is_ascii_digit digits ≡ true → i < length digits → c ≡ get_or digits i 0 → IsInRange 48 57 c
digit_in_range digits i c all inside at = in_range c (ap is_ascii_digit at ∙ digit_there digits i all inside)

-- one more digit
pub one_more_digit : (digits : List ℕ) (i c v d : ℕ) → list_all is_ascii_digit digits ≡ true → i < length digits → c ≡ get_or digits i 0 → d ≡ c - 48
    → v ≡ digits_value 10 (take i digits) → v * 10 + d ≡ digits_value 10 (take (i + 1) digits)
one_more_digit digits i c v d all inside at range value =
    let more = digits_value_more 10 digits i inside in
    let same = digit_value_digit c (digit_in_range digits i c all inside at) in
    let here = ap digit_value at in
    omega (arith, more, same, here)

-- a beginning that is above a limit puts the number above it
pub above_limit : (digits : List ℕ) (i v most : ℕ) → v ≡ digits_value 10 (take i digits) → most < v → false ≡ nat_le (digits_value 10 digits) most
above_limit digits i v most value above =
    let front = digits_value-take-le 10 digits i (omega arith) in
    grind (arith, nat_tests)

all_digits : (digits : List ℕ) → list_all is_ascii_digit digits ≡ true → AllDigits 10 digits
all_digits [] h = tt
all_digits (c ∷ digits) h =
    let parts = and_parts (is_ascii_digit c) (list_all is_ascii_digit digits) h in
    (omega (arith, digit_value_digit c (in_range c parts.0), in_range c parts.0), all_digits digits parts.1)

-- at most four digits are within a limit of ten thousand or more
pub few_digits : (digits : List ℕ) (most : ℕ) → list_all is_ascii_digit digits ≡ true → length digits ≤ 4 → 10 ^ 4 ≤ most
    → true ≡ nat_le (digits_value 10 digits) most
few_digits digits most all few limit =
    let value = digits_value_short (numerals_by_value (AllDigits 10) tells_digits) digits 4 (all_digits digits all) few in
    grind (arith, nat_tests)
