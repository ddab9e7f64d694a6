-- A form of mini-notation that stands at the front of a text is the one that is found there.
use Rattle.std.proofs.Common.{◌≡◌, ℕ, ◌<◌, Bool, true, false, ◌&&◌, ◌||◌, ◌==◌, Some, List, [], ◌∷◌, ◌++◌, length}
use Rattle.std.proofs.Common.{codes, refl, ap, sym, ◌∙◌, arith, length-append}
use Rattle.std.specs.List.{list_all, list_any}
use Rattle.std.specs.Char.{is_ascii_digit, is_ascii_alphabetic}
use Rattle.std.proofs.lemmas.Bool.{and_parts, or_parts}
use Rattle.std.proofs.lemmas.Bool.Decides.{nat_tests}
use Rattle.tdl_lexer.specs.Bytes.{is_run_byte, is_plain_mark, begins}
use Rattle.tdl_lexer.specs.Numbers.{minus_text, IsNumber}
use Rattle.tdl_lexer.specs.MiniForms.{Form, Numeral, Word, Hold, Dot, Range, Plain, form_text, is_word, IsDot, Stands}
use Rattle.tdl_lexer.specs.inside.FindNumber.{run_of, number_of}
use Rattle.tdl_lexer.specs.inside.FindMini.{is_hold, run_form, signed_form, dot_form, mini_form_at}
use Rattle.tdl_lexer.proofs.Fronts.{begins-front}
use Rattle.tdl_lexer.proofs.NumberLemmas.{run_read, run_in_front, made, number_read, same_digits, regroup}

-- ---- runs
at_run : (last : ℕ) (text : List ℕ) → begins is_run_byte text ≡ true → is_run_byte last ≡ false → mini_form_at last text ≡ run_form text
at_run last [] first apart = cc
at_run last (byte ∷ rest) first apart = rw (first, apart) refl

-- ---- numbers
run_of_digits : (text : List ℕ) → list_all is_ascii_digit (run_of text) ≡ true → run_form text ≡ Some (Numeral (number_of false text))
run_of_digits text h = rw h refl

signed_digits : (text : List ℕ) → begins is_ascii_digit text ≡ true → list_all is_ascii_digit (run_of text) ≡ true
    → signed_form text ≡ Some (Numeral (number_of true text))
signed_digits text first h = rw (first, h) refl

numeral_read : (negative : Bool) (last : ℕ) (whole tail after : List ℕ) → IsNumber (record { negative = negative; whole = whole; tail = tail }) last after
    → mini_form_at last (minus_text negative ++ (whole ++ (tail ++ after))) ≡ Some (Numeral (made negative whole tail))
numeral_read false last whole tail after h =
    let text = whole ++ (tail ++ after) in
    at_run last text (run_in_front last whole (tail ++ after) h.run) h.run.starts
    ∙ run_of_digits text (same_digits last whole (tail ++ after) h.run h.digits)
    ∙ ap (λ n. Some (Numeral n)) (number_read false last whole tail after h.run h.tail)
numeral_read true last whole tail after h =
    let text = whole ++ (tail ++ after) in
    signed_digits text (begins-front is_ascii_digit whole (tail ++ after) h.run.filled h.digits) (same_digits 45 whole (tail ++ after) h.run h.digits)
    ∙ ap (λ n. Some (Numeral n)) (number_read true 45 whole tail after h.run h.tail)

-- ---- words and the hold mark
letter_is_no_digit : (byte : ℕ) → is_ascii_alphabetic byte ≡ true → is_ascii_digit byte ≡ false
letter_is_no_digit byte h = grind (arith, nat_tests)

letter_is_no_hold : (byte : ℕ) → is_ascii_alphabetic byte ≡ true → (byte == 95) ≡ false
letter_is_no_hold byte h = grind (arith, nat_tests)

not_all_digits : (run : List ℕ) → list_any is_ascii_alphabetic run ≡ true → list_all is_ascii_digit run ≡ false
not_all_digits [] h = cc
not_all_digits (byte ∷ run) h = here (is_ascii_alphabetic byte) refl h (not_all_digits run)
  where
    and_false : (b : Bool) → (b && false) ≡ false
    and_false true = refl
    and_false false = refl

    here : (b : Bool) → is_ascii_alphabetic byte ≡ b → (b || list_any is_ascii_alphabetic run) ≡ true
        → (list_any is_ascii_alphabetic run ≡ true → list_all is_ascii_digit run ≡ false) → (is_ascii_digit byte && list_all is_ascii_digit run) ≡ false
    here true e k more = rw (letter_is_no_digit byte e) refl
    here false e k more = rw (more k) (and_false (is_ascii_digit byte))

not_hold : (run : List ℕ) → list_any is_ascii_alphabetic run ≡ true → is_hold run ≡ false
not_hold [] h = refl
not_hold (byte ∷ []) h = letter_is_no_hold byte (or_false (is_ascii_alphabetic byte) h)
  where
    or_false : (b : Bool) → (b || false) ≡ true → b ≡ true
    or_false true e = refl
    or_false false e = e
not_hold (byte ∷ next ∷ rest) h = refl

run_is_word : (text run : List ℕ) → run_of text ≡ run → is_word run ≡ true → run_form text ≡ Some (Word run)
run_is_word text run e h =
    let letter = (and_parts _ _ h).0 in
    rw (e, not_all_digits run letter, not_hold run letter, h) refl

run_is_hold : (text : List ℕ) → run_of text ≡ codes "_" → run_form text ≡ Some Hold
run_is_hold text e = rw e refl

-- ---- other marks
dot_read : (last : ℕ) (after : List ℕ) → IsDot last after → dot_form last after ≡ Some Dot
dot_read last after h = rw (h.single, h.apart, h.ends) refl

-- what holds of no byte of a list holds of none that is in it
among : (p : ℕ → Bool) (marks : List ℕ) (byte : ℕ) → list_any (λ mark. mark == byte) marks ≡ true → list_any p marks ≡ false → p byte ≡ false
among p [] byte h none = cc
among p (mark ∷ marks) byte h none = here (mark == byte) refl h (among p marks byte)
  where
    same : (mark == byte) ≡ true → mark ≡ byte
    same e = grind (arith, nat_tests)

    here : (b : Bool) → (mark == byte) ≡ b → (b || list_any (λ m. m == byte) marks) ≡ true
        → (list_any (λ m. m == byte) marks ≡ true → list_any p marks ≡ false → p byte ≡ false) → p byte ≡ false
    here true e k more = ap p (sym (same e)) ∙ (or_parts _ _ none).0
    here false e k more = more k (or_parts _ _ none).1

abbrev marks : List ℕ
marks = codes "~[]<>{}(),!*/@:%?|^"

plain_read : (last mark : ℕ) (after : List ℕ) → is_plain_mark mark ≡ true → mini_form_at last (mark ∷ after) ≡ Some (Plain mark)
plain_read last mark after h =
    let no_run : is_run_byte mark ≡ false = among is_run_byte marks mark h refl in
    let no_minus : (mark == 45) ≡ false = among (λ b. b == 45) marks mark h refl in
    let no_dot : (mark == 46) ≡ false = among (λ b. b == 46) marks mark h refl in
    rw (no_run, no_minus, no_dot, h) refl

-- ---- all of them
pub form_read : (form : Form) (last : ℕ) (after : List ℕ) → Stands form last after → mini_form_at last (form_text form ++ after) ≡ Some form
form_read (Numeral n) last after h =
    ap (mini_form_at last) (regroup (minus_text n.negative) n.whole n.tail after) ∙ numeral_read n.negative last n.whole n.tail after h
form_read (Word run) last after h =
    at_run last (run ++ after) (run_in_front last run after h.0) h.0.starts ∙ run_is_word (run ++ after) run (run_read last run after h.0) h.1
form_read Hold last after h =
    at_run last (codes "_" ++ after) refl h.starts ∙ run_is_hold (codes "_" ++ after) (run_read last (codes "_") after h)
form_read Dot last after h = dot_read last after h
form_read Range last after h = refl
form_read (Plain mark) last after h = plain_read last mark after h

-- a form has a byte
pub form_filled : (form : Form) (last : ℕ) (after : List ℕ) → Stands form last after → 0 < length (form_text form)
form_filled (Numeral n) last after h = omega (arith, length-append (minus_text n.negative) (n.whole ++ n.tail), length-append n.whole n.tail, h.run.filled)
form_filled (Word run) last after h = h.0.filled
form_filled Hold last after h = h.filled
form_filled Dot last after h = omega arith
form_filled Range last after h = omega arith
form_filled (Plain mark) last after h = omega arith
