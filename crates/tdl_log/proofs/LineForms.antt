-- What the functions on the forms of lines answer.
--     split_in, split_then, split_else, split_field    a line that is cut at a blank
--     place_in                 a time that is cut at its line
--     decimal_looks            a decimal is one
--     over_some, over_none     digits over a number of 32 bits, and over others
--     rest_gcd, rest_step      what is left of a number when it is divided
--     digits_as                digits, by a test of each
use Rattle.std.proofs.Common.{◌≡◌, ℕ, zero, suc, ◌+◌, ◌*◌, ◌/◌, ◌%◌, ◌-◌, ◌^◌, ◌<◌, ◌≤◌, Bool, true, false, not, ◌&&◌, ◌||◌, ◌==◌}
use Rattle.std.proofs.Common.{List, [], ◌∷◌, length, get_or, take}
use Rattle.std.proofs.Common.{refl, sym, ap, subst, ◌∙◌, inl, inr, ◌⊎◌, arith}
use Rattle.std.specs.Prelude.{nat_lt, if◌then◌else◌}
use Rattle.std.specs.Char.{is_ascii_digit}
use Rattle.std.specs.Fmt.{decimal}
use Rattle.std.specs.Int.{IsInRange}
use Rattle.std.specs.List.{All, list_all}
use Rattle.std.specs.Str.{all_ascii_digits}
use Rattle.std.specs.Str.Parse.{digits_value}
use Rattle.std.proofs.Math.Nat.{add-mul-mod_self_right, mod-add-div', mod-eq_of_lt}
use Rattle.std.proofs.lemmas.Bool.{cases_lt, eq-eqb, eqb-true}
use Rattle.std.proofs.lemmas.Bool.Decides.{nat_tests}
use Rattle.std.proofs.lemmas.Fmt.{decimal-digits_value, decimal_digit, decimal_is_IsNumeral, first_decimal}
use Rattle.std.proofs.lemmas.List.Elements.{All-head, All-tail}
use Rattle.std.proofs.lemmas.List.Recursion.{same_from_clauses}
use Rattle.std.proofs.lemmas.Str.Parse.{IsNumeralModel, digit_at, numerals_by_value, tells_all_ascii_digits}
use Rattle.tdl_fraction.specs.Divisor.{gcd}
use Rattle.tdl_fraction.specs.Units.{tick_units}
use Rattle.tdl_fraction.proofs.Coprime.{gcd_comm}
use Rattle.tdl_fraction.proofs.Euclid.{gcd-mod}
use Rattle.tdl_fraction.proofs.Numerals.{one_more_digit}
use Rattle.tdl_log.specs.LineKinds.{before, behind, is_decimal, is_over, is_part, is_place, is_split}
use Rattle.tdl_log.specs.inside.Fronts.{IsCutAt}
use Rattle.tdl_log.proofs.PlainBytes.{decimal_bytes}
use Rattle.tdl_log.proofs.ReadFronts.{cut_parts}

pub place_in : (text above below : List ℕ) → IsCutAt 47 text above below → (is_decimal above && is_over above below) ≡ is_place text
place_in text above below cut =
    let parts = cut_parts cut in
    sym (ap (λ (b : Bool). if b then is_decimal (before 47 text) && is_over (before 47 text) (behind 47 text) else is_decimal text) parts.found
    ∙ ap (λ (xs : List ℕ). is_decimal xs && is_over xs (behind 47 text)) parts.ahead
    ∙ ap (λ (xs : List ℕ). is_decimal above && is_over above xs) parts.beyond)

-- ---- fields
pub split_in : (is_field is_left : List ℕ → Bool) (text front left : List ℕ) → IsCutAt 32 text front left
    → (is_field front && is_left left) ≡ is_split is_field is_left text
split_in is_field is_left text front left cut =
    let parts = cut_parts cut in
    sym (ap (λ (b : Bool). b && (is_field (before 32 text) && is_left (behind 32 text))) parts.found
    ∙ ap (λ (xs : List ℕ). is_field xs && is_left (behind 32 text)) parts.ahead
    ∙ ap (λ (xs : List ℕ). is_field front && is_left xs) parts.beyond)

pub split_then : (is_field is_left : List ℕ → Bool) (text front left : List ℕ) (b c : Bool) → IsCutAt 32 text front left → b ≡ true → b ≡ is_field front
    → c ≡ is_left left → c ≡ is_split is_field is_left text
split_then is_field is_left text front left b c cut passed here there =
    there ∙ ap (λ (t : Bool). t && is_left left) (sym passed ∙ here) ∙ split_in is_field is_left text front left cut

pub split_else : (is_field is_left : List ℕ → Bool) (text front left : List ℕ) (b : Bool) → IsCutAt 32 text front left → b ≡ false → b ≡ is_field front
    → b ≡ is_split is_field is_left text
split_else is_field is_left text front left b cut failed here =
    failed ∙ ap (λ (t : Bool). t && is_left left) (sym failed ∙ here) ∙ split_in is_field is_left text front left cut

pub split_field : (is_field : List ℕ → Bool) (text front left : List ℕ) → IsCutAt 32 text front left → is_field front ≡ is_split is_field (λ any. true) text
split_field is_field text front left cut = sym (either (is_field front)) ∙ split_in is_field (λ any. true) text front left cut
  where
    either : (b : Bool) → (b && true) ≡ b
    either true = refl
    either false = refl

-- ---- decimals
digits_look : (digits : List ℕ) → All (λ b. IsInRange 48 57 b) digits → all_ascii_digits digits ≡ true
digits_look [] each = tells_all_ascii_digits.empty
digits_look (digit ∷ digits) each =
    tells_all_ascii_digits.more digit digits (All-head (λ b. IsInRange 48 57 b) digit digits each)
    (digits_look digits (All-tail (λ b. IsInRange 48 57 b) digit digits each))

form_looks : (digits : List ℕ) → 0 < length digits → all_ascii_digits digits ≡ true → 48 < get_or digits 0 0 → is_decimal digits ≡ true
form_looks [] some each above = absurd (omega arith)
form_looks (digit ∷ digits) some each above = both (all_ascii_digits (digit ∷ digits)) (digit == 48) (length digits == 0) each (grind (arith, nat_tests))
  where
    both : (a t u : Bool) → a ≡ true → t ≡ false → (a && (not t || u)) ≡ true
    both true false u p q = refl
    both true true u p q = cc
    both false t u p q = cc

decimal_zero : decimal 0 ≡ 48 ∷ []
decimal_zero = decimal_digit 0 (omega arith)

pub decimal_looks : (n : ℕ) → n < 2 ^ 64 → is_decimal (decimal n) ≡ true
decimal_looks zero few = ap is_decimal decimal_zero
decimal_looks (suc n) few =
    form_looks (decimal (suc n)) (decimal_is_IsNumeral (suc n) few).0.0 (digits_look (decimal (suc n)) (decimal_bytes (suc n) few))
    (first_decimal (suc n) (omega arith) few)

pub record DecimalParts (digits : List ℕ) : Type 0 where
  pub each : all_ascii_digits digits ≡ true
  pub some : 0 < length digits
  pub front : get_or digits 0 0 ≡ 48 → length digits ≡ 1

pub decimal_parts : (digits : List ℕ) → is_decimal digits ≡ true → DecimalParts digits
decimal_parts [] is = absurd (cc)
decimal_parts (digit ∷ digits) is =
    let parts = both (all_ascii_digits (digit ∷ digits)) (digit == 48) (length digits == 0) is in
    record { each = parts.0; some = omega arith; front = λ here. only (parts.1 (eq-eqb digit 48 here)) }
  where
    only : (length digits == 0) ≡ true → suc (length digits) ≡ 1
    only none = let empty = eqb-true (length digits) 0 none in omega arith

    both : (a t u : Bool) → (a && (not t || u)) ≡ true → (a ≡ true) × (t ≡ true → u ≡ true)
    both true true u e = (refl, λ _. e)
    both true false u e = (refl, λ p. cc)
    both false t u e = absurd (cc)

-- ---- times
own : IsNumeralModel (λ digits. all_ascii_digits digits ≡ true) (digits_value 10)
own = numerals_by_value (λ digits. all_ascii_digits digits ≡ true) tells_all_ascii_digits

pub over_some : (above below : List ℕ) (d : ℕ) → below ≡ decimal d → d < 2 ^ 32 → is_part (digits_value 10 above) d ≡ is_over above below
over_some above below d spelled few =
    let P : List ℕ → Type 0 = λ xs. is_part (digits_value 10 above) d ≡ is_over above xs in
    subst P (sym spelled)
    (sym (ap (λ (b : Bool). b && is_part (digits_value 10 above) (digits_value 10 (decimal d))) (decimal_looks d (omega arith))
    ∙ ap (λ (k : ℕ). is_part (digits_value 10 above) k) (decimal_is_IsNumeral d (omega arith)).1))

no_part : (n d : ℕ) → tick_units < d → is_part n d ≡ false
no_part n d above =
    let left : tick_units % d ≡ tick_units = mod-eq_of_lt above in
    ap (λ (k : ℕ). nat_lt 1 d && ((k == 0) && (gcd n d == 1))) left ∙ either (nat_lt 1 d)
  where
    either : (b : Bool) → (b && false) ≡ false
    either true = refl
    either false = refl

pub over_none : (above below : List ℕ) → ((n : ℕ) → n < 2 ^ 32 → below ≡ decimal n → ⊥) → false ≡ is_over above below
over_none above below none = by (is_decimal below) refl
  where
    few : DecimalParts below → (digits_value 10 below < 2 ^ 32) ⊎ (2 ^ 32 ≤ digits_value 10 below)
        → is_part (digits_value 10 above) (digits_value 10 below) ≡ false
    few parts (inl small) =
        absurd (none (digits_value 10 below) small (sym (decimal-digits_value own below parts.each parts.some parts.front (omega arith))))
    few parts (inr large) = no_part (digits_value 10 above) (digits_value 10 below) (omega arith)

    by : (b : Bool) → is_decimal below ≡ b → false ≡ (b && is_part (digits_value 10 above) (digits_value 10 below))
    by true e = sym (few (decimal_parts below e) (cases_lt (digits_value 10 below) (2 ^ 32)))
    by false e = refl

pub rest_gcd : (n d : ℕ) → gcd (n % d) d ≡ gcd n d
rest_gcd n d = gcd_comm (n % d) d ∙ gcd-mod n d

rest_more : (v c d : ℕ) → (v % d * 10 + c) % d ≡ (v * 10 + c) % d
rest_more v c d =
    sym (ap (λ (n : ℕ). n % d) (regroup (v / d) (v % d) d v c (mod-add-div' v d)) ∙ add-mul-mod_self_right (v % d * 10 + c) (v / d * 10) d)
  where
    regroup : (q r d v c : ℕ) → r + q * d ≡ v → v * 10 + c ≡ (r * 10 + c) + (q * 10) * d
    regroup q r d v c e = grind arith

pub digit_range : (digits : List ℕ) (i : ℕ) → all_ascii_digits digits ≡ true → i < length digits → IsInRange 48 57 (get_or digits i 0)
digit_range digits i each inside = digit_at digits i (own.to digits each) inside

pub rest_step : (digits : List ℕ) (i c d left divisor : ℕ) → i < length digits → c ≡ get_or digits i 0 → all_ascii_digits digits ≡ true → d ≡ c - 48
    → left ≡ digits_value 10 (take i digits) % divisor → (left * 10 + d) % divisor ≡ digits_value 10 (take (i + 1) digits) % divisor
rest_step digits i c d left divisor inside at each is so_far =
    let range = digit_range digits i each inside in
    ap (λ (n : ℕ). (n * 10 + d) % divisor) so_far
    ∙ rest_more (digits_value 10 (take i digits)) d divisor
    ∙ ap (λ (n : ℕ). n % divisor)
    (one_more_digit digits i (get_or digits i 0) (digits_value 10 (take i digits)) d inside refl range (is ∙ ap (λ (n : ℕ). n - 48) at) refl)

pub digits_as : (digits : List ℕ) → list_all is_ascii_digit digits ≡ all_ascii_digits digits
digits_as digits =
    same_from_clauses (list_all is_ascii_digit) all_ascii_digits (λ digit rest. is_ascii_digit digit && rest) refl (λ _ _. refl) (λ _ _. refl) digits
