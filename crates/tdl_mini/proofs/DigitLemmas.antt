-- The numbers that digits write, digit by digit.
use Rattle.std.proofs.Common.{◌≡◌, ℕ, zero, suc, ◌+◌, ◌*◌, ◌-◌, ◌<◌, ◌≤◌, ◌^◌, true, List, length, take, get_or, refl, arith, Fits, w32}
use Rattle.std.proofs.lemmas.Int.Digits.{digits_value-lt}
use Rattle.std.specs.List.{list_all, take_while}
use Rattle.tdl_lexer.proofs.Fronts.{take-length_front, cut_of}
use Rattle.std.specs.Char.{is_ascii_digit}
use Rattle.std.specs.Str.Parse.{digits_value}
use Rattle.std.proofs.lemmas.Str.Parse.{digits_value-take-le}
use Rattle.tdl_lexer.proofs.Values.{one_more_digit}
use Rattle.tdl_mini_machine.proofs.DigitLemmas.{all_digits}

-- a beginning is at most the whole
pub next_below : (digits : List ℕ) (i v c d : ℕ) → list_all is_ascii_digit digits ≡ true → i < length digits → c ≡ get_or digits i 0 → d ≡ c - 48
    → v ≡ digits_value 10 (take i digits) → v * 10 + d ≤ digits_value 10 digits
next_below digits i v c d all inside at range value =
    let more = one_more_digit digits i c v d all inside at range value in
    let front = digits_value-take-le 10 digits (i + 1) (omega arith) in
    omega (arith, front, more)

pub times_fits : (digits : List ℕ) (i v : ℕ) → list_all is_ascii_digit digits ≡ true → digits_value 10 digits < 2 ^ 32 → i < length digits
    → v ≡ digits_value 10 (take i digits) → Fits w32 (v * 10)
times_fits digits i v all fits inside value =
    let below = next_below digits i v _ _ all inside refl refl value in
    omega (arith, below)

pub next_fits : (digits : List ℕ) (i v c d : ℕ) → list_all is_ascii_digit digits ≡ true → digits_value 10 digits < 2 ^ 32 → i < length digits
    → c ≡ get_or digits i 0 → d ≡ c - 48 → v ≡ digits_value 10 (take i digits) → Fits w32 (v * 10 + d)
next_fits digits i v c d all fits inside at range value =
    let below = next_below digits i v c d all inside at range value in
    omega (arith, below)

-- at most four digits
few : (n v : ℕ) → n ≤ 4 → v < 10 ^ n → v * 10 ^ (4 - n) < 2 ^ 32
few zero v short below = omega arith
few (suc zero) v short below = omega arith
few (suc (suc zero)) v short below = omega arith
few (suc (suc (suc zero))) v short below = omega arith
few (suc (suc (suc (suc zero)))) v short below = omega arith
few (suc (suc (suc (suc (suc n))))) v short below = absurd (omega arith)

pub few_digits : (ds : List ℕ) → list_all is_ascii_digit ds ≡ true → length ds ≤ 4 → digits_value 10 ds * 10 ^ (4 - length ds) < 2 ^ 32
few_digits ds all short = few (length ds) _ short (digits_value-lt 10 ds (all_digits ds all))

pub product_fits : (ds : List ℕ) (a b : ℕ) → list_all is_ascii_digit ds ≡ true → length ds ≤ 4 → a ≡ digits_value 10 ds → b ≡ 10 ^ (4 - length ds)
    → Fits w32 (a * b)
product_fits ds a b all short first second = let below = few_digits ds all short in rw first (rw second (omega (arith, below)))

small : (n v : ℕ) → n ≤ 4 → v < 10 ^ n → v < 2 ^ 32
small zero v short below = omega arith
small (suc zero) v short below = omega arith
small (suc (suc zero)) v short below = omega arith
small (suc (suc (suc zero))) v short below = omega arith
small (suc (suc (suc (suc zero)))) v short below = omega arith
small (suc (suc (suc (suc (suc n))))) v short below = absurd (omega arith)

pub few_value : (ds : List ℕ) → list_all is_ascii_digit ds ≡ true → length ds ≤ 4 → digits_value 10 ds < 2 ^ 32
few_value ds all short = small (length ds) _ short (digits_value-lt 10 ds (all_digits ds all))

pub digits_plain : (text : List ℕ) (n : ℕ) → n ≡ length (take_while is_ascii_digit text) → list_all is_ascii_digit (take n text) ≡ true
digits_plain text n e = rw e (rw (take-length_front is_ascii_digit text) (cut_of is_ascii_digit text).passes)
