-- The numbers of the tokens that the lexer cuts are small.
--     small_number     a number whose parts fit is small
--     is_small_tok     the token is no number, or a small one
--     small_tokens     each token of a text that is cut is small
use Rattle.std.proofs.Common.{◌≡◌, ℕ, zero, suc, ◌*◌, ◌-◌, ◌<◌, ◌≤◌, ◌^◌, ◌==◌, Bool, true, false, nat_le, nat_lt, if◌then◌else◌, List, [], ◌∷◌, map}
use Rattle.std.proofs.Common.{length, drop, slice_range, IsTrue, refl, ap, ◌∙◌, arith}
use Rattle.std.specs.List.{list_all, take_while}
use Rattle.std.specs.Char.{is_ascii_digit}
use Rattle.std.specs.Str.Parse.{digits_value}
use Rattle.std.proofs.lemmas.Bool.Decides.{nat_tests}
use Rattle.std.proofs.lemmas.List.{map-append}
use Rattle.std.proofs.lemmas.List.Folds.{list_all-append}
use Rattle.std.proofs.lemmas.Int.Digits.{digits_value-lt}
use Rattle.std.proofs.lemmas.Bool.{and_from, and_parts}
use Rattle.tdl_lexer.specs.declared.signs.Sign.{Sign}
use Rattle.tdl_lexer.specs.declared.signs.Sign.TheVariants as sign
use Rattle.tdl_lexer.specs.declared.signs.Token.{Token}
use Rattle.tdl_lexer.specs.MiniForms.{mini_notation}
use Rattle.tdl_lexer.specs.Tokens.{Front, IsCut, end_token}
use Rattle.tdl_mini_machine.specs.Tokens.{Tok, digits, letters, mark, end}
use Rattle.tdl_mini_grammar.specs.Texts.{tail_of, unsigned_of, number_of, signed_tok, tok_of, is_count_at}
use Rattle.tdl_mini_grammar.specs.NumberTexts.{fits_tail, fits_unsigned, fits_number}
use Rattle.tdl_mini_grammar.specs.inside.Readable.{IsPiece}
use Rattle.tdl_mini_tree.specs.Valid.{is_small_tail, is_small}
use Rattle.tdl_mini_machine.proofs.DigitLemmas.{all_digits}
use Rattle.tdl_mini_grammar.proofs.Pieced.{next_piece}

abbrev pub is_small_tok : Tok → Bool
is_small_tok (digits n text is_count) = is_small n
is_small_tok (letters text is_count) = true
is_small_tok (mark m) = true
is_small_tok end = true

-- ---- numbers
-- at most four digits
few : (n v : ℕ) → n ≤ 4 → v < 10 ^ n → v * 10 ^ (4 - n) < 10000
few zero v short below = omega arith
few (suc zero) v short below = omega arith
few (suc (suc zero)) v short below = omega arith
few (suc (suc (suc zero))) v short below = omega arith
few (suc (suc (suc (suc zero)))) v short below = omega arith
few (suc (suc (suc (suc (suc n))))) v short below = absurd (omega arith)

small_decimals : (ds : List ℕ) → list_all is_ascii_digit ds ≡ true → nat_le (length ds) 4 ≡ true
    → nat_lt (digits_value 10 ds * 10 ^ (4 - length ds)) 10000 ≡ true
small_decimals ds all short =
    let below = few (length ds) (digits_value 10 ds) (grind (arith, nat_tests)) (digits_value-lt 10 ds (all_digits ds all)) in
    grind (arith, nat_tests)

small_tail : (tail : List ℕ) → fits_tail tail ≡ true → is_small_tail (tail_of tail) ≡ true
small_tail [] h = refl
small_tail (byte ∷ rest) h = here (byte == 46) refl (and_parts (list_all is_ascii_digit rest) _ h).1
  where
    here : (b : Bool) → (byte == 46) ≡ b → (if b then nat_le (length rest) 4 else nat_le (digits_value 10 rest) 65535) ≡ true
        → is_small_tail (tail_of (byte ∷ rest)) ≡ true
    here true e fits = rw e (small_decimals rest (and_parts (list_all is_ascii_digit rest) _ h).0 fits)
    here false e fits = rw e fits

small_unsigned : (negative : Bool) (text : List ℕ) → fits_unsigned text ≡ true → is_small (unsigned_of negative text) ≡ true
small_unsigned negative text h =
    let whole = nat_le (digits_value 10 (take_while is_ascii_digit text)) 2147483647 in
    let rest = drop (length (take_while is_ascii_digit text)) text in
    and_from whole _ (and_parts whole (fits_tail rest) h).0 (small_tail rest (and_parts whole (fits_tail rest) h).1)

pub small_number : (text : List ℕ) → fits_number text ≡ true → is_small (number_of text) ≡ true
small_number [] h = refl
small_number (byte ∷ rest) h = here (byte == 45) refl h
  where
    here : (b : Bool) → (byte == 45) ≡ b → (if b then fits_unsigned rest else fits_unsigned (byte ∷ rest)) ≡ true → is_small (number_of (byte ∷ rest)) ≡ true
    here true e fits = rw e (small_unsigned true rest fits)
    here false e fits = rw e (small_unsigned false (byte ∷ rest) fits)

-- ---- tokens
small_signed : (s : Sign) (bytes : List ℕ) (is_count : Bool) → (s ≡ sign.Number → IsTrue (fits_number bytes))
    → is_small_tok (signed_tok s bytes is_count) ≡ true
small_signed sign.Number bytes is_count fits = small_number bytes (fits refl)
small_signed sign.Word bytes is_count fits = refl
small_signed sign.Mark bytes is_count fits = refl
small_signed sign.Quoted bytes is_count fits = refl
small_signed sign.End bytes is_count fits = refl

small_piece : (text : List ℕ) (t : Token) → IsPiece text t → is_small_tok (tok_of text t) ≡ true
small_piece text t h = small_signed t.sign (slice_range text t.at t.end) (is_count_at text t.at (slice_range text t.at t.end)) h.number

small_front : (text : List ℕ) (ts : List Token) (from to : ℕ) → Front mini_notation text ts from to → list_all is_small_tok (map (tok_of text) ts) ≡ true
small_front text [] from to h = refl
small_front text (t ∷ ts) from to h = and_from (is_small_tok (tok_of text t)) _ (small_piece text t (next_piece text from t h.0))
    (small_front text ts t.end to h.1)

pub small_tokens : (text : List ℕ) (tokens : List Token) → IsCut mini_notation text tokens → IsTrue (list_all is_small_tok (map (tok_of text) tokens))
small_tokens text tokens cut =
    let front = map (tok_of text) cut.before in
    ap (λ (ts : List Token). list_all is_small_tok (map (tok_of text) ts)) cut.ends
    ∙ ap (list_all is_small_tok) (map-append (tok_of text) cut.before (end_token (length text) ∷ []))
    ∙ list_all-append is_small_tok front (end ∷ [])
    ∙ and_from (list_all is_small_tok front) true (small_front text cut.before 0 cut.to cut.front) refl
