-- What the reader of mini-notation answers is the lexeme that stands there.
use Rattle.std.proofs.Common.{◌≡◌, ℕ, ◌≤◌, ◌==◌, Bool, true, false, cond, nat_le, Option, Some, None, Result, Ok, Err, List, [], ◌∷◌}
use Rattle.std.proofs.Common.{length, drop, get_or, refl, ap, sym, ◌∙◌, arith}
use Rattle.std.proofs.lemmas.Bool.Decides.{nat_tests}
use Rattle.std.specs.Char.{is_ascii}
use Rattle.tdl_lexer.specs.declared.lexemes.Lexeme.{Lexeme}
use Rattle.tdl_lexer.specs.declared.lexemes.Flaw.{Flaw}
use Rattle.tdl_lexer.specs.declared.signs.LexKind.{LexKind}
use Rattle.tdl_lexer.specs.declared.signs.LexKind.TheVariants.{UnknownSign}
use Rattle.tdl_lexer.specs.Bytes.{is_run_byte, is_plain_mark}
use Rattle.tdl_lexer.specs.Languages.{at_front}
use Rattle.tdl_lexer.specs.MiniForms.{Form, form_text, form_sign, fits, excess, mini_notation}
use Rattle.tdl_lexer.specs.Tokens.{unlisted}
use Rattle.tdl_lexer.specs.inside.Lexeme.{judged, lexeme_or, mini_lexeme}
use Rattle.tdl_lexer.specs.inside.FindMini.{run_form, dot_form, mini_form_at, form_lexeme_or, lexeme_after}

run_is_low : (byte : ℕ) → is_run_byte byte ≡ true → nat_le 128 byte ≡ false
run_is_low byte h = grind (arith, nat_tests)

-- where a text begins with a byte of a run
pub run_answer : (last : ℕ) (text : List ℕ) (r : Result Lexeme LexKind) → 1 ≤ length text → true ≡ is_run_byte (get_or text 0 0)
    → r ≡ form_lexeme_or UnknownSign (cond (is_run_byte last) None (run_form text)) → r ≡ lexeme_after last text
run_answer last [] r filled first e = absurd (omega arith)
run_answer last (byte ∷ rest) r filled first e =
    let run : is_run_byte byte ≡ true = sym first in
    let text = byte ∷ rest in
    let found : Option Form = cond (is_run_byte last) None (run_form text) in
    let there : mini_form_at last text ≡ found = when_true _ (is_run_byte byte) found _ run in
    let kind : unlisted text ≡ UnknownSign = rw (run_is_low byte run) refl in
    e ∙ ap (λ k. form_lexeme_or k found) (sym kind) ∙ ap (form_lexeme_or (unlisted text)) (sym there)
  where
    when_true : (A : Type 0) (b : Bool) (x y : A) → b ≡ true → cond b x y ≡ x
    when_true A true x y t = refl
    when_true A false x y t = cc

-- where it begins with a `.`
pub dot_answer : (last : ℕ) (text after : List ℕ) (r : Result Lexeme LexKind) → 1 ≤ length text → get_or text 0 0 ≡ 46 → after ≡ drop 1 text
    → r ≡ form_lexeme_or UnknownSign (dot_form last after) → r ≡ lexeme_after last text
dot_answer last [] after r filled first e is = absurd (omega arith)
dot_answer last (byte ∷ rest) after r filled first e is =
    is ∙ ap (λ t. form_lexeme_or UnknownSign (dot_form last t)) e ∙ ap (λ (b : ℕ). lexeme_after last (b ∷ rest)) (sym first)

other_is_no : (byte code : ℕ) → (byte ≡ code → ⊥) → (byte == code) ≡ false
other_is_no byte code h = grind (arith, nat_tests)

-- where it begins with another byte below 128
pub ascii_answer : (last : ℕ) (text : List ℕ) → 1 ≤ length text → false ≡ is_run_byte (get_or text 0 0) → (get_or text 0 0 ≡ 45 → ⊥)
    → (get_or text 0 0 ≡ 46 → ⊥) → false ≡ is_plain_mark (get_or text 0 0) → true ≡ is_ascii (get_or text 0 0) → Err UnknownSign ≡ lexeme_after last text
ascii_answer last [] filled no_run no_minus no_dot no_mark ascii = absurd (omega arith)
ascii_answer last (byte ∷ rest) filled no_run no_minus no_dot no_mark ascii =
    let run : is_run_byte byte ≡ false = sym no_run in
    let minus : (byte == 45) ≡ false = other_is_no byte 45 no_minus in
    let dot : (byte == 46) ≡ false = other_is_no byte 46 no_dot in
    let mark : is_plain_mark byte ≡ false = sym no_mark in
    let low : nat_le 128 byte ≡ false = grind (arith, nat_tests) in
    rw (run, minus, dot, mark, low) refl

-- ---- and as a fault at the first byte
abbrev at_first : Result Lexeme LexKind → Result Lexeme Flaw
at_first (Ok x) = Ok x
at_first (Err kind) = Err (at_front kind)

all_forms : (rest : List ℕ) (o : Option Form) → at_first (form_lexeme_or (unlisted rest) o) ≡ lexeme_or mini_notation rest o
all_forms rest None = refl
all_forms rest (Some form) = here (fits form)
  where
    here : (b : Bool) → at_first (cond {A = Result Lexeme LexKind} b (Ok (record { sign = form_sign form; len = length (form_text form) })) (Err (excess form)))
        ≡ judged (record { sign = form_sign form; len = length (form_text form) }) (cond {A = Option Flaw} b None (Some (at_front (excess form))))
    here true = refl
    here false = refl

pub mini_ok : (last : ℕ) (rest : List ℕ) (x : Lexeme) → Ok x ≡ lexeme_after last rest → Ok x ≡ mini_lexeme last rest
mini_ok last rest x e = ap at_first e ∙ all_forms rest (mini_form_at last rest)

pub mini_err : (last : ℕ) (rest : List ℕ) (kind : LexKind) → Err kind ≡ lexeme_after last rest → Err (at_front kind) ≡ mini_lexeme last rest
mini_err last rest kind e = ap at_first e ∙ all_forms rest (mini_form_at last rest)
