-- Which tokens are words.
use Rattle.std.proofs.Common.{◌≡◌, ℕ, ◌<◌, ◌≤◌, Bool, true, false, not, ◌||◌, ◌==◌, nat_le, List, [], ◌∷◌, length, Option, Some, None, IsSome, IfSome}
use Rattle.std.proofs.Common.{MatchOption, ◌↔◌, refl, sym, ◌∙◌, arith}
use Rattle.std.specs.List.{list_all, list_any}
use Rattle.std.specs.Char.{is_ascii_digit, is_ascii_alphabetic}
use Rattle.std.proofs.lemmas.Bool.{false≢true, and_parts, and_from, or_parts, or_from, or_left}
use Rattle.std.proofs.lemmas.Bool.Decides.{nat_tests}
use Rattle.tdl_control.specs.declared.words.Word.{Word}
use Rattle.tdl_control.specs.Word.{word_bytes}
use Rattle.tdl_control.specs.WordForm.{IsWord, is_word_byte}
use Rattle.tdl_mini_machine.specs.Tokens.{has_sharp, letters}
use Rattle.tdl_mini_machine.specs.Readable.{is_readable, is_readable_byte}

or_first : (a b : Bool) → (a || b) ≡ true → b ≡ false → a ≡ true
or_first true b h k = refl
or_first false b h k = absurd (false≢true (sym k ∙ h))

or_map : (a b c d : Bool) → (a ≡ true → c ≡ true) → (b ≡ true → d ≡ true) → (a || b) ≡ true → (c || d) ≡ true
or_map true b c d f g h = rw (f refl) refl
or_map false b true d f g h = refl
or_map false b false d f g h = g h

plain_of_run : (text : List ℕ) → list_all is_readable_byte text ≡ true → has_sharp text ≡ false → list_all is_word_byte text ≡ true
plain_of_run [] all none = refl
plain_of_run (x ∷ xs) all none = and_from (is_word_byte x) _ (or_first (is_word_byte x) (x == 35) (and_parts _ _ all).0 (or_parts _ _ none).0)
    (plain_of_run xs (and_parts _ _ all).1 (or_parts _ _ none).1)

letter_named : (x : ℕ) → is_ascii_alphabetic x ≡ true → not (x == 95) ≡ true
letter_named x h = grind (arith, nat_tests)

named_of_letter : (text : List ℕ) → list_any is_ascii_alphabetic text ≡ true → list_any (λ byte. not (byte == 95)) text ≡ true
named_of_letter [] h = h
named_of_letter (x ∷ xs) h = or_map (is_ascii_alphabetic x) (list_any is_ascii_alphabetic xs) (not (x == 95)) _ (letter_named x) (named_of_letter xs) h

no_sharp_byte : (x : ℕ) → is_word_byte x ≡ true → (x == 35) ≡ false
no_sharp_byte x h = grind (arith, nat_tests)

no_sharp : (text : List ℕ) → list_all is_word_byte text ≡ true → has_sharp text ≡ false
no_sharp [] all = refl
no_sharp (x ∷ xs) all = or_from (x == 35) (has_sharp xs) (no_sharp_byte x (and_parts _ _ all).0) (no_sharp xs (and_parts _ _ all).1)

digit_plain : (x : ℕ) → is_ascii_digit x ≡ true → is_word_byte x ≡ true
digit_plain x h = grind (arith, nat_tests)

plain_of_digits : (text : List ℕ) → list_all is_ascii_digit text ≡ true → list_all is_word_byte text ≡ true
plain_of_digits [] all = refl
plain_of_digits (x ∷ xs) all = and_from (is_word_byte x) _ (digit_plain x (and_parts _ _ all).0) (plain_of_digits xs (and_parts _ _ all).1)

digit_named : (x : ℕ) → is_ascii_digit x ≡ true → not (x == 95) ≡ true
digit_named x h = grind (arith, nat_tests)

named_of_digits : (text : List ℕ) → list_all is_ascii_digit text ≡ true → 0 < length text → list_any (λ byte. not (byte == 95)) text ≡ true
named_of_digits [] all filled = absurd (omega arith)
named_of_digits (x ∷ xs) all filled = or_left (not (x == 95)) _ (digit_named x (and_parts _ _ all).0)

short_of : (n : ℕ) → nat_le n 32 ≡ true → n ≤ 32
short_of n h = grind (arith, nat_tests)

test_of : (n : ℕ) → n ≤ 32 → nat_le n 32 ≡ true
test_of n h = grind (arith, nat_tests)

pub digits_matched : (text : List ℕ) (r : Option Word) → list_all is_ascii_digit text ≡ true → 0 < length text → (IsSome r ↔ IsWord text)
    → IfSome r (λ word. word_bytes word ≡ text) → MatchOption r (nat_le (length text) 32 ≡ false)
    (λ word. (word_bytes word ≡ text) × (nat_le (length text) 32 ≡ true))
digits_matched text (Some word) all filled exactly same = (same, test_of (length text) (exactly.0 refl).short)
digits_matched text None all filled exactly same = here (nat_le (length text) 32) refl
  where
    here : (b : Bool) → nat_le (length text) 32 ≡ b → b ≡ false
    here true e =
        absurd (false≢true (exactly.1
        (record { short = short_of (length text) e; plain = plain_of_digits text all; named = named_of_digits text all filled })))
    here false e = refl

pub letters_matched : (text : List ℕ) (r : Option Word) → is_readable (letters text false) ≡ true → (IsSome r ↔ IsWord text)
    → IfSome r (λ word. word_bytes word ≡ text) → MatchOption r (has_sharp text ≡ true) (λ word. (word_bytes word ≡ text) × (has_sharp text ≡ false))
letters_matched text (Some word) readable exactly same = (same, no_sharp text (exactly.0 refl).plain)
letters_matched text None readable exactly same = here (has_sharp text) refl
  where
    here : (b : Bool) → has_sharp text ≡ b → b ≡ true
    here true e = refl
    here false e = absurd (false≢true (exactly.1 (record {
      short = short_of (length text) (and_parts _ _ (and_parts _ _ readable).0).0;
      plain = plain_of_run text (and_parts _ _ (and_parts _ _ readable).0).1 e;
      named = named_of_letter text (and_parts _ _ readable).1;
    })))
