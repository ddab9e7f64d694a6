-- The language of mini-notation.
--     Form, form_text   a number, a word, or a mark: `_`, `.`, `..` or another; and its bytes
--     Stands            a form stands after a byte and before the rest of a text
--     fits              a number is not too large, and a word not too long
--     mini_notation     the language
use Rattle.std.specs.Prelude.{◌≡◌, ℕ, Bool, true, false, not, ◌&&◌, ◌==◌, nat_le, if◌then◌else◌, Option, Some, None, List, [], ◌∷◌, length, codes, IsTrue}
use Rattle.std.specs.List.{list_any, take_while}
use Rattle.std.specs.Char.{is_ascii_alphabetic}
use Rattle.tdl_control.specs.Limits.{max_word}
use Rattle.tdl_lexer.specs.declared.signs.Sign.{Sign}
use Rattle.tdl_lexer.specs.declared.signs.Sign.TheVariants as sign
use Rattle.tdl_lexer.specs.declared.signs.LexKind.{LexKind}
use Rattle.tdl_lexer.specs.declared.signs.LexKind.TheVariants.{UnknownSign, NumberTooLarge, WordTooLong}
use Rattle.tdl_lexer.specs.declared.lexemes.Flaw.{Flaw}
use Rattle.tdl_lexer.specs.Bytes.{is_space, is_run_byte, is_plain_mark, begins}
use Rattle.tdl_lexer.specs.Numbers.{Number, number_text, IsRun, IsNumber, is_small}
use Rattle.tdl_lexer.specs.Languages.{at_front, Language}

pub data Form : Type 0 where
  Numeral : Number → Form
  Word : List ℕ → Form
  Hold : Form
  Dot : Form
  Range : Form
  Plain : ℕ → Form

abbrev pub form_text : Form → List ℕ
form_text (Numeral n) = number_text n
form_text (Word run) = run
form_text Hold = codes "_"
form_text Dot = codes "."
form_text Range = codes ".."
form_text (Plain mark) = mark ∷ []

abbrev pub form_sign : Form → Sign
form_sign (Numeral n) = sign.Number
form_sign (Word run) = sign.Word
form_sign Hold = sign.Mark
form_sign Dot = sign.Mark
form_sign Range = sign.Mark
form_sign (Plain mark) = sign.Mark

-- a run with a letter that does not begin with `#`
abbrev pub is_word : List ℕ → Bool
is_word run = list_any is_ascii_alphabetic run && not (begins (λ byte. byte == 35) run)

-- a `.` with no run beside it and no other `.` after it
pub record IsDot (last : ℕ) (after : List ℕ) : Type 0 where
  pub apart : is_run_byte last ≡ false
  pub ends : begins is_run_byte after ≡ false
  pub single : begins (λ byte. byte == 46) after ≡ false

abbrev pub Stands : Form → ℕ → List ℕ → Type 0
Stands (Numeral n) last after = IsNumber n last after
Stands (Word run) last after = IsRun last run after × IsTrue (is_word run)
Stands Hold last after = IsRun last (codes "_") after
Stands Dot last after = IsDot last after
Stands Range last after = Unit {0}
Stands (Plain mark) last after = IsTrue (is_plain_mark mark)

abbrev pub fits : Form → Bool
fits (Numeral n) = is_small n
fits (Word run) = nat_le (length run) max_word
fits Hold = true
fits Dot = true
fits Range = true
fits (Plain mark) = true

-- the kind of the fault of a form that does not fit
abbrev pub excess : Form → LexKind
excess (Numeral n) = NumberTooLarge
excess (Word run) = WordTooLong
excess Hold = UnknownSign
excess Dot = UnknownSign
excess Range = UnknownSign
excess (Plain mark) = UnknownSign

abbrev pub mini_flaw : Form → List ℕ → Option Flaw
mini_flaw form after = if fits form then None else Some (at_front (excess form))

abbrev pub mini_notation : Language
mini_notation = record {
  Form = Form;
  spell = form_text;
  sign = form_sign;
  Stands = Stands;
  flaw = mini_flaw;
  blank = λ text. take_while is_space text;
}
