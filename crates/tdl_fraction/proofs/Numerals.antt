-- Numerals of decimal digits, from left to right.
use Rattle.std.proofs.Common.{inl, inr, ◌≡◌, ℕ, ◌+◌, ◌*◌, ◌-◌, ◌^◌, ◌<◌, ◌≤◌, List, length, take, get_or, ap, arith, length-take-le}
use Rattle.std.specs.Int.{IsInRange, IsOutOfRange}
use Rattle.std.specs.Char.{digit_value}
use Rattle.std.specs.Str.Parse.{AllDigits, digits_value}
use Rattle.std.proofs.Math.Nat.{pow-le-pow_right}
use Rattle.std.proofs.lemmas.Str.{digit_value_digit}
use Rattle.std.proofs.lemmas.Str.Parse.{digit_at}
use Rattle.std.proofs.lemmas.Int.Digits.{digits_value-lt, digits_value_more}

-- a byte that is no digit stands in no numeral
pub not_numeral : (ds : List ℕ) (i c : ℕ) → i < length ds → c ≡ get_or ds i 0 → IsOutOfRange 48 57 c → AllDigits 10 ds → ⊥
not_numeral ds i c inside is out all =
    let within = digit_at ds i all inside in
    elim out [ inl low ↦ omega arith | inr high ↦ omega arith ]

-- the first digits write a small number
pub few_digits : (ds : List ℕ) (i k v : ℕ) → i ≤ length ds → i ≤ k → v ≡ digits_value 10 (take i ds) → AllDigits 10 (take i ds) → v < 10 ^ k
few_digits ds i k v inside few is all =
    let low = digits_value-lt 10 (take i ds) all in
    let long = ap (λ n. 10 ^ n) (length-take-le i ds inside) in
    let mono = pow-le-pow_right {n = 10} (omega arith) {i = i} {j = k} few in
    omega (arith, low, long, mono)

-- one more digit
pub one_more_digit : (ds : List ℕ) (i c v d : ℕ) → i < length ds → c ≡ get_or ds i 0 → IsInRange 48 57 c → d ≡ c - 48 → v ≡ digits_value 10 (take i ds)
    → v * 10 + d ≡ digits_value 10 (take (i + 1) ds)
one_more_digit ds i c v d inside at range is value =
    let more = digits_value_more 10 ds i inside in
    let same = digit_value_digit c range in
    let here = ap digit_value at in
    omega (arith, more, same, here)
