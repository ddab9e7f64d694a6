-- The tokens of a line are pieces of it.
--     IsPiece       a piece of a text that can be a token
--     pieces        each token of a text is one
--     few_tokens    a text has at most one token more than bytes
use Rattle.std.proofs.Common.{◌≡◌, ℕ, zero, suc, ◌+◌, ◌-◌, ◌<◌, ◌≤◌, Bool, true, false, Some, None, List, [], ◌∷◌, ◌++◌, length, get_or, take, drop}
use Rattle.std.proofs.Common.{refl, sym, ap, ◌∙◌, subst, arith, append_assoc, length-append, length-take-le}
use Rattle.std.specs.Prelude.{IsTrue, if◌then◌else◌, slice_range}
use Rattle.std.specs.List.{list_all, take_while}
use Rattle.std.specs.Char.{is_ascii_digit}
use Rattle.std.proofs.Math.Seq.{take-append_seam, drop-append_seam}
use Rattle.std.proofs.lemmas.Bool.{and_parts}
use Rattle.std.proofs.lemmas.Bool.Decides.{nat_tests}
use Rattle.std.proofs.lemmas.List.{length-drop}
use Rattle.tdl_lexer.specs.declared.signs.Sign.TheVariants as sign
use Rattle.tdl_lexer.specs.declared.signs.Token.{Token}
use Rattle.tdl_lexer.specs.declared.signs.LexKind.TheVariants.{UnknownSign, NumberTooLarge}
use Rattle.tdl_lexer.specs.Bytes.{begins, is_run_byte, is_space}
use Rattle.tdl_lexer.specs.Languages.{at_front}
use Rattle.tdl_lexer.specs.Numbers.{Number, number_text, minus_text, IsNumber, is_small}
use Rattle.tdl_lexer.specs.MiniForms as mini_forms
use Rattle.tdl_lexer.specs.MiniForms.{mini_notation}
use Rattle.tdl_lexer.specs.LineForms.{Form, Numeral, Name, Quoted, Open, Mark, spelling, sign_of, StandsBefore, line_flaw, line_notation}
use Rattle.tdl_lexer.specs.Tokens.{NextToken, Front, IsCut, end_token}
use Rattle.tdl_lexer.proofs.LineFound.{line_form_filled}
use Rattle.tdl_mini_grammar.specs.NumberTexts.{fits_number}
use Rattle.tdl_mini_grammar.proofs.Pieced.{next_piece}

pub record IsPiece (text : List ℕ) (t : Token) : Type 0 where
  pub ordered : t.at ≤ t.end
  pub within : t.end ≤ length text
  pub number : t.sign ≡ sign.Number → IsTrue (fits_number (slice_range text t.at t.end))
  pub quoted : t.sign ≡ sign.Quoted → 2 ≤ t.end - t.at

-- ---- numbers, which are those of mini-notation too
digit_no_space : (byte : ℕ) → is_ascii_digit byte ≡ true → is_space byte ≡ false
digit_no_space byte h = grind (arith, nat_tests)

no_blank : (whole more : List ℕ) → 0 < length whole → list_all is_ascii_digit whole ≡ true → length (take_while is_space (whole ++ more)) ≡ 0
no_blank [] more filled digits = absurd (omega arith)
no_blank (byte ∷ rest) more filled digits =
    let e = digit_no_space byte (and_parts (is_ascii_digit byte) (list_all is_ascii_digit rest) digits).0 in
    rw e refl

front_slice : (a b : List ℕ) → slice_range (a ++ b) 0 (length a) ≡ a
front_slice a b = let all : length a - 0 ≡ length a = omega arith in ap (λ (k : ℕ). take k (a ++ b)) all ∙ take-append_seam a b

number_next : (n : Number) (after : List ℕ) → StandsBefore (Numeral n) after → is_small n ≡ true
    → NextToken mini_notation (number_text n ++ after) 0 (record { sign = sign.Number; at = 0; end = length (number_text n) })
number_next n after h small =
    let plain : number_text n ≡ n.whole ++ n.tail = ap (λ (b : Bool). minus_text b ++ (n.whole ++ n.tail)) h.0 in
    let blank : length (take_while is_space (number_text n ++ after)) ≡ 0 = ap (λ (t : List ℕ). length (take_while is_space (t ++ after))) plain
    ∙ ap (λ (t : List ℕ). length (take_while is_space t)) (append_assoc n.whole n.tail after)
    ∙ no_blank n.whole (n.tail ++ after) h.1.run.filled h.1.digits in
    record {
      form = mini_forms.Numeral n;
      place = omega (arith, blank);
      within = omega (arith, length-append (number_text n) after);
      is = front_slice (number_text n) after;
      stands = subst (λ (rest : List ℕ). IsNumber n 32 rest) (sym (drop-append_seam (number_text n) after)) h.1;
      flawless = rw small refl;
      sign = refl;
    }

number_fits : (n : Number) (after : List ℕ) → StandsBefore (Numeral n) after → is_small n ≡ true → fits_number (number_text n) ≡ true
number_fits n after h small =
    subst (λ (t : List ℕ). fits_number t ≡ true) (front_slice (number_text n) after) ((next_piece _ 0 _ (number_next n after h small)).number refl)

-- ---- forms
small_of : (n : Number) (after : List ℕ) → line_flaw (Numeral n) after ≡ None → is_small n ≡ true
small_of n after e = here (is_small n) refl e
  where
    here : (b : Bool) → is_small n ≡ b
        → (if b then (if begins is_run_byte after then Some (record { kind = UnknownSign; past = length (number_text n) }) else None)
        else Some (at_front NumberTooLarge)) ≡ None → b ≡ true
    here true same e = refl
    here false same e = cc

form_fits : (form : Form) (after : List ℕ) → StandsBefore form after → line_flaw form after ≡ None → sign_of form ≡ sign.Number
    → fits_number (spelling form) ≡ true
form_fits (Numeral n) after h flawless e = number_fits n after h (small_of n after flawless)
form_fits (Name name) after h flawless e = cc
form_fits (Quoted text) after h flawless e = cc
form_fits (Open text) after h flawless e = cc
form_fits (Mark mark) after h flawless e = cc

form_quoted : (form : Form) (after : List ℕ) → line_flaw form after ≡ None → sign_of form ≡ sign.Quoted → 2 ≤ length (spelling form)
form_quoted (Numeral n) after flawless e = cc
form_quoted (Name name) after flawless e = cc
form_quoted (Quoted text) after flawless e = omega (arith, length-append text (34 ∷ []))
form_quoted (Open text) after flawless e = cc
form_quoted (Mark mark) after flawless e = cc

-- ---- tokens
next_long : (text : List ℕ) (from : ℕ) (t : Token) (h : NextToken line_notation text from t) → (t.at < t.end) × (t.end - t.at ≡ length (spelling h.form))
next_long text from t h =
    let filled = line_form_filled h.form (drop t.end text) h.stands in
    let within : t.end ≤ length text = h.within in
    let room : t.end - t.at ≤ length (drop t.at text) = omega (arith, length-drop t.at text) in
    let size : t.end - t.at ≡ length (spelling h.form) = sym (length-take-le (t.end - t.at) (drop t.at text) room) ∙ ap length h.is in
    (omega arith, size)

line_piece : (text : List ℕ) (from : ℕ) (t : Token) → NextToken line_notation text from t → IsPiece text t
line_piece text from t h =
    let after = drop t.end text in
    let long = next_long text from t h in
    record {
      ordered = omega (arith, long.0);
      within = h.within;
      number = λ e. subst (λ (b : List ℕ). IsTrue (fits_number b)) (sym h.is) (form_fits h.form after h.stands h.flawless (sym h.sign ∙ e));
      quoted = λ e. omega (arith, long.1, form_quoted h.form after h.flawless (sym h.sign ∙ e));
    }

end_piece : (text : List ℕ) → IsPiece text (end_token (length text))
end_piece text = record { ordered = omega arith; within = omega arith; number = λ e. cc; quoted = λ e. cc }

pieces_from : (text : List ℕ) (before : List Token) (from to i : ℕ) (there : Token) → Front line_notation text before from to
    → i < length (before ++ end_token (length text) ∷ []) → there ≡ get_or (before ++ end_token (length text) ∷ []) i there → IsPiece text there
pieces_from text [] from to zero there front inside is = subst (IsPiece text) (sym is) (end_piece text)
pieces_from text [] from to (suc i) there front inside is = absurd (omega arith)
pieces_from text (t ∷ before) from to zero there front inside is = subst (IsPiece text) (sym is) (line_piece text from t front.0)
pieces_from text (t ∷ before) from to (suc i) there front inside is = pieces_from text before t.end to i there front.1 (omega arith) is

pub pieces : (text : List ℕ) (tokens : List Token) (i : ℕ) (there : Token) → IsCut line_notation text tokens → i < length tokens → there ≡ get_or tokens i there
    → IsPiece text there
pieces text tokens i there cut inside is =
    pieces_from text cut.before 0 cut.to i there cut.front (subst (λ (ts : List Token). i < length ts) cut.ends inside)
    (is ∙ ap (λ (ts : List Token). get_or ts i there) cut.ends)

-- ---- lengths
few_front : (text : List ℕ) (ts : List Token) (from to : ℕ) → Front line_notation text ts from to → from + length ts ≤ to
few_front text [] from to h = let e : from ≡ to = h in omega arith
few_front text (t ∷ ts) from to h =
    let more = few_front text ts t.end to h.1 in
    let filled = (next_long text from t h.0).0 in
    let blank : from ≤ t.at = omega (arith, h.0.place) in
    omega arith

pub few_tokens : (text : List ℕ) (tokens : List Token) → IsCut line_notation text tokens → length tokens ≤ suc (length text)
few_tokens text tokens cut =
    let few = few_front text cut.before 0 cut.to cut.front in
    let all : length tokens ≡ length cut.before + 1 = ap length cut.ends ∙ length-append cut.before (end_token (length text) ∷ []) in
    let blank : cut.to ≤ length text = omega (arith, cut.whole) in
    omega arith
