-- The tokens of a text are pieces of it.
--     pieces        each token of a text is a piece of it
--     few_tokens    a text has at most one token more than bytes
use Rattle.std.proofs.Common.{◌≡◌, ℕ, zero, suc, ◌+◌, ◌-◌, ◌<◌, ◌≤◌, ◌==◌, Bool, true, false, not, ◌&&◌, ◌||◌, nat_le, nat_lt, List, [], ◌∷◌, ◌++◌, length}
use Rattle.std.proofs.Common.{get_or, drop, refl, sym, ap, ap₂, ◌∙◌, subst, arith, length-append, length-take-le}
use Rattle.std.specs.Prelude.{IsTrue, slice_range}
use Rattle.std.specs.List.{list_all, list_any}
use Rattle.std.specs.Char.{is_ascii_digit, is_ascii_alphabetic}
use Rattle.std.specs.Str.Parse.{digits_value}
use Rattle.std.proofs.lemmas.List.{append-nil, length-drop}
use Rattle.std.proofs.lemmas.Bool.{and_parts, and_from, or_left, or_right}
use Rattle.std.proofs.lemmas.Bool.Decides.{nat_tests}
use Rattle.tdl_lexer.specs.declared.signs.Sign.{Sign}
use Rattle.tdl_lexer.specs.declared.signs.Sign.TheVariants as sign
use Rattle.tdl_lexer.specs.declared.signs.Token.{Token}
use Rattle.tdl_lexer.specs.Bytes.{begins, is_run_byte}
use Rattle.tdl_lexer.specs.Numbers.{minus_text, IsTail, is_tail_mark, tail_fits}
use Rattle.tdl_lexer.specs.MiniForms.{Form, Numeral, Word, Hold, Dot, Range, Plain, form_text, form_sign, Stands, fits, mini_notation}
use Rattle.tdl_lexer.specs.Tokens.{NextToken, Front, IsCut, byte_before, end_token}
use Rattle.tdl_lexer.proofs.Fronts.{take_while-front, drop-front}
use Rattle.tdl_lexer.proofs.MiniRead.{form_filled}
use Rattle.tdl_lexer.proofs.ModeFinds.{mini_fits}
use Rattle.tdl_mini_tree.specs.Numbers.{is_whole}
use Rattle.tdl_mini_grammar.specs.Texts.{unsigned_of, tail_of, signed_tok, is_count_at}
use Rattle.tdl_mini_grammar.specs.NumberTexts.{fits_tail, fits_unsigned, fits_number}
use Rattle.tdl_mini_machine.specs.Readable.{is_readable}
use Rattle.tdl_mini_grammar.specs.inside.Readable.{IsPiece}

-- ---- numbers
mark_is_no_digit : (byte : ℕ) → is_tail_mark byte ≡ true → is_ascii_digit byte ≡ false
mark_is_no_digit byte h = grind (arith, nat_tests)

digit_is_no_minus : (byte : ℕ) → is_ascii_digit byte ≡ true → (byte == 45) ≡ false
digit_is_no_minus byte h = grind (arith, nat_tests)

tail_apart : (tail after : List ℕ) → IsTail tail after → begins is_ascii_digit tail ≡ false
tail_apart [] after h = refl
tail_apart (mark ∷ digits) after h = mark_is_no_digit mark h.0

tail_is_fit : (tail after : List ℕ) → IsTail tail after → tail_fits tail ≡ true → fits_tail tail ≡ true
tail_is_fit [] after h e = refl
tail_is_fit (mark ∷ digits) after h e = and_from (list_all is_ascii_digit digits) (tail_fits (mark ∷ digits)) h.2 e

unsigned_fits : (whole tail after : List ℕ) → list_all is_ascii_digit whole ≡ true → IsTail tail after
    → (nat_le (digits_value 10 whole) 2147483647 && tail_fits tail) ≡ true → fits_unsigned (whole ++ tail) ≡ true
unsigned_fits whole tail after digits h small =
    let apart = tail_apart tail after h in
    let parts = and_parts (nat_le (digits_value 10 whole) 2147483647) (tail_fits tail) small in
    ap₂ (λ (a b : List ℕ). nat_le (digits_value 10 a) 2147483647 && fits_tail b) (take_while-front is_ascii_digit whole tail digits apart)
    (drop-front is_ascii_digit whole tail digits apart)
    ∙ and_from (nat_le (digits_value 10 whole) 2147483647) (fits_tail tail) parts.0 (tail_is_fit tail after h parts.1)

plain_first : (byte : ℕ) (rest : List ℕ) → list_all is_ascii_digit (byte ∷ rest) ≡ true → (byte == 45) ≡ false
plain_first byte rest e = digit_is_no_minus byte (and_parts (is_ascii_digit byte) (list_all is_ascii_digit rest) e).0

number_fits : (negative : Bool) (whole tail after : List ℕ) → 0 < length whole → list_all is_ascii_digit whole ≡ true → IsTail tail after
    → (nat_le (digits_value 10 whole) 2147483647 && tail_fits tail) ≡ true → fits_number (minus_text negative ++ (whole ++ tail)) ≡ true
number_fits true whole tail after filled digits h small = unsigned_fits whole tail after digits h small
number_fits false [] tail after filled digits h small = absurd (omega arith)
number_fits false (byte ∷ rest) tail after filled digits h small =
    let e = plain_first byte rest digits in
    rw e (unsigned_fits (byte ∷ rest) tail after digits h small)

with_tail : (mark : ℕ) (digits : List ℕ) → not (is_whole (record { is_negative = false; whole = 0; tail = tail_of (mark ∷ digits) })) ≡ true
with_tail mark digits = here (mark == 46) refl
  where
    here : (b : Bool) → (mark == 46) ≡ b → not (is_whole (record { is_negative = false; whole = 0; tail = tail_of (mark ∷ digits) })) ≡ true
    here true e = rw e refl
    here false e = rw e refl

-- a number without a sign is plain digits, or has a tail
unsigned_readable : (whole tail after : List ℕ) → 0 < length whole → list_all is_ascii_digit whole ≡ true → IsTail tail after
    → (not (is_whole (unsigned_of false (whole ++ tail))) || (list_all is_ascii_digit (whole ++ tail) && nat_lt 0 (length (whole ++ tail)))) ≡ true
unsigned_readable whole [] after filled digits h =
    let P : List ℕ → Type 0 = λ text. (list_all is_ascii_digit text && nat_lt 0 (length text)) ≡ true in
    or_right _ _ (subst P (sym (append-nil whole)) (and_from (list_all is_ascii_digit whole) (nat_lt 0 (length whole)) digits (grind (arith, nat_tests))))
unsigned_readable whole (mark ∷ digits) after filled plain h =
    let tail = mark ∷ digits in
    let left = drop-front is_ascii_digit whole tail plain (tail_apart tail after h) in
    or_left _ _ (ap (λ (t : List ℕ). not (is_whole (record { is_negative = false; whole = 0; tail = tail_of t }))) left ∙ with_tail mark digits)

or_middle : (a b : Bool) → (a || b) ≡ true → (a || false || b) ≡ true
or_middle true b e = refl
or_middle false b e = e

or_sign : (a b : Bool) → (a || true || b) ≡ true
or_sign true b = refl
or_sign false b = refl

number_readable : (negative : Bool) (whole tail after : List ℕ) (is_count : Bool) → 0 < length whole → list_all is_ascii_digit whole ≡ true
    → IsTail tail after → is_readable (signed_tok sign.Number (minus_text negative ++ (whole ++ tail)) is_count) ≡ true
number_readable true whole tail after is_count filled digits h = or_sign _ _
number_readable false [] tail after is_count filled digits h = absurd (omega arith)
number_readable false (byte ∷ rest) tail after is_count filled digits h =
    let e = plain_first byte rest digits in
    let text = (byte ∷ rest) ++ tail in
    rw e (or_middle (not (is_whole (unsigned_of false text))) (list_all is_ascii_digit text && nat_lt 0 (length text))
    (unsigned_readable (byte ∷ rest) tail after filled digits h))

-- ---- forms
form_fits : (form : Form) (last : ℕ) (after : List ℕ) → Stands form last after → fits form ≡ true → form_sign form ≡ sign.Number
    → fits_number (form_text form) ≡ true
form_fits (Numeral n) last after h small e = number_fits n.negative n.whole n.tail after h.run.filled h.digits h.tail small
form_fits (Word run) last after h small e = cc
form_fits Hold last after h small e = cc
form_fits Dot last after h small e = cc
form_fits Range last after h small e = cc
form_fits (Plain mark) last after h small e = cc

form_readable : (form : Form) (last : ℕ) (after : List ℕ) (is_count : Bool) → Stands form last after → fits form ≡ true
    → is_readable (signed_tok (form_sign form) (form_text form) is_count) ≡ true
form_readable (Numeral n) last after is_count h small = number_readable n.negative n.whole n.tail after is_count h.run.filled h.digits h.tail
form_readable (Word run) last after is_count h small =
    and_from (nat_le (length run) 32 && list_all is_run_byte run) (list_any is_ascii_alphabetic run)
    (and_from (nat_le (length run) 32) (list_all is_run_byte run) small h.0.bytes)
    (and_parts (list_any is_ascii_alphabetic run) (not (begins (λ byte. byte == 35) run)) h.1).0
form_readable Hold last after is_count h small = refl
form_readable Dot last after is_count h small = refl
form_readable Range last after is_count h small = refl
form_readable (Plain mark) last after is_count h small = refl

-- ---- tokens
next_filled : (text : List ℕ) (from : ℕ) (t : Token) → NextToken mini_notation text from t → t.at < t.end
next_filled text from t h =
    let filled = form_filled h.form (byte_before text t.at) (drop t.end text) h.stands in
    let within : t.end ≤ length text = h.within in
    let room : t.end - t.at ≤ length (drop t.at text) = omega (arith, length-drop t.at text) in
    let size : t.end - t.at ≡ length (form_text h.form) = sym (length-take-le (t.end - t.at) (drop t.at text) room) ∙ ap length h.is in
    omega arith

pub next_piece : (text : List ℕ) (from : ℕ) (t : Token) → NextToken mini_notation text from t → IsPiece text t
next_piece text from t h =
    let filled = next_filled text from t h in
    let last = byte_before text t.at in
    let after = drop t.end text in
    let small = mini_fits h.form after h.flawless in
    let bytes = slice_range text t.at t.end in
    let count = is_count_at text t.at bytes in
    record {
      ordered = omega arith;
      within = h.within;
      number = λ e. subst (λ (b : List ℕ). IsTrue (fits_number b)) (sym h.is) (form_fits h.form last after h.stands small (sym h.sign ∙ e));
      readable = subst (λ (s : Sign). IsTrue (is_readable (signed_tok s bytes count))) (sym h.sign)
          (subst (λ (b : List ℕ). IsTrue (is_readable (signed_tok (form_sign h.form) b count))) (sym h.is)
          (form_readable h.form last after count h.stands small));
    }

end_piece : (text : List ℕ) → IsPiece text (end_token (length text))
end_piece text = record { ordered = omega arith; within = omega arith; number = λ e. cc; readable = refl }

pieces_from : (text : List ℕ) (before : List Token) (from to i : ℕ) (there : Token) → Front mini_notation text before from to
    → i < length (before ++ end_token (length text) ∷ []) → there ≡ get_or (before ++ end_token (length text) ∷ []) i there → IsPiece text there
pieces_from text [] from to zero there front inside is = subst (IsPiece text) (sym is) (end_piece text)
pieces_from text [] from to (suc i) there front inside is = absurd (omega arith)
pieces_from text (t ∷ before) from to zero there front inside is = subst (IsPiece text) (sym is) (next_piece text from t front.0)
pieces_from text (t ∷ before) from to (suc i) there front inside is = pieces_from text before t.end to i there front.1 (omega arith) is

pub pieces : (text : List ℕ) (tokens : List Token) (i : ℕ) (there : Token) → IsCut mini_notation text tokens → i < length tokens → there ≡ get_or tokens i there
    → IsPiece text there
pieces text tokens i there cut inside is =
    pieces_from text cut.before 0 cut.to i there cut.front (subst (λ (ts : List Token). i < length ts) cut.ends inside)
    (is ∙ ap (λ (ts : List Token). get_or ts i there) cut.ends)

-- ---- lengths
few_front : (text : List ℕ) (ts : List Token) (from to : ℕ) → Front mini_notation text ts from to → from + length ts ≤ to
few_front text [] from to h = let e : from ≡ to = h in omega arith
few_front text (t ∷ ts) from to h =
    let more = few_front text ts t.end to h.1 in
    let filled = next_filled text from t h.0 in
    let blank : from ≤ t.at = omega (arith, h.0.place) in
    omega arith

pub few_tokens : (text : List ℕ) (tokens : List Token) → IsCut mini_notation text tokens → length tokens ≤ suc (length text)
few_tokens text tokens cut =
    let few = few_front text cut.before 0 cut.to cut.front in
    let all : length tokens ≡ length cut.before + 1 = ap length cut.ends ∙ length-append cut.before (end_token (length text) ∷ []) in
    let blank : cut.to ≤ length text = omega (arith, cut.whole) in
    omega arith
