-- The language of performers' lines.
--     marks             the marks, no one before a longer one that it begins
--     mark_of           the longest mark that a text begins with
--     Form, spelling    a number, a name, a quoted text, a `"` that no other follows, or a mark; and its bytes
--     StandsBefore      a form stands before the rest of a text
--     line_flaw         why a form is no token there
--     blank_of          blanks, and then perhaps a comment
--     line_notation     the language
use Rattle.std.specs.Prelude.{◌≡◌, ℕ, false, nat_eq, if◌then◌else◌, Option, Some, None, List, [], ◌∷◌, ◌++◌, length, drop, map, codes, IsTrue}
use Rattle.std.specs.List.{list_all, take_while, find, starts_with}
use Rattle.std.specs.Char.{is_ascii_lowercase}
use Rattle.tdl_lexer.specs.declared.signs.Sign.{Sign}
use Rattle.tdl_lexer.specs.declared.signs.Sign.TheVariants as sign
use Rattle.tdl_lexer.specs.declared.signs.LexKind.TheVariants.{UnknownSign, NumberTooLarge, Unclosed}
use Rattle.tdl_lexer.specs.declared.lexemes.Flaw.{Flaw}
use Rattle.tdl_lexer.specs.Bytes.{is_space, is_run_byte, is_name_byte, is_text_byte, is_line_byte, begins}
use Rattle.tdl_lexer.specs.Numbers.{Number, number_text, IsNumber, is_small}
use Rattle.tdl_lexer.specs.Languages.{at_front, Language}

abbrev pub operators : List (List ℕ)
operators = map codes ("#" ∷ "|+|" ∷ "|-|" ∷ "|*|" ∷ "|+" ∷ "+|" ∷ "|-" ∷ "-|" ∷ "|*" ∷ "*|" ∷ "<~" ∷ "~>" ∷ [])

abbrev pub marks : List (List ℕ)
marks = map codes ("$" ∷ "(" ∷ ")" ∷ "[" ∷ "]" ∷ "," ∷ "." ∷ "/" ∷ []) ++ operators ++ map codes ("-" ∷ [])

-- the longest mark that a text begins with
abbrev pub mark_of : List ℕ → Option (List ℕ)
mark_of text = find (λ mark. starts_with nat_eq text mark) marks

-- a number, a name, the bytes between two `"`, those behind a `"` that no other follows, or a mark
pub data Form : Type 0 where
  Numeral : Number → Form
  Name : List ℕ → Form
  Quoted : List ℕ → Form
  Open : List ℕ → Form
  Mark : List ℕ → Form

abbrev pub spelling : Form → List ℕ
spelling (Numeral n) = number_text n
spelling (Name name) = name
spelling (Quoted text) = 34 ∷ text ++ 34 ∷ []
spelling (Open text) = 34 ∷ text
spelling (Mark mark) = mark

abbrev pub sign_of : Form → Sign
sign_of (Numeral n) = sign.Number
sign_of (Name name) = sign.Word
sign_of (Quoted text) = sign.Quoted
sign_of (Open text) = sign.Quoted
sign_of (Mark mark) = sign.Mark

-- a longest piece of letters, digits, `_` and `'` that begins with a lower-case letter
pub record IsName (name after : List ℕ) : Type 0 where
  pub starts : IsTrue (begins is_ascii_lowercase name)
  pub bytes : IsTrue (list_all is_name_byte name)
  pub ends : begins is_name_byte after ≡ false

-- whatever stands before it; numbers are those of mini-notation after a blank, without sign
abbrev pub StandsBefore : Form → List ℕ → Type 0
StandsBefore (Numeral n) after = (n.negative ≡ false) × IsNumber n 32 after
StandsBefore (Name name) after = IsName name after
StandsBefore (Quoted text) after = IsTrue (list_all is_text_byte text)
StandsBefore (Open text) after = IsTrue (list_all is_text_byte text) × (after ≡ [])
StandsBefore (Mark mark) after = mark_of (mark ++ after) ≡ Some mark

-- a number that is too large, or directly before a letter, `_` or `#`, where the fault stands; or no second `"`
abbrev pub line_flaw : Form → List ℕ → Option Flaw
line_flaw (Numeral n) after =
    if is_small n
    then (if begins is_run_byte after then Some (record { kind = UnknownSign; past = length (number_text n) }) else None)
    else Some (at_front NumberTooLarge)
line_flaw (Name name) after = None
line_flaw (Quoted text) after = None
line_flaw (Open text) after = Some (at_front Unclosed)
line_flaw (Mark mark) after = None

-- what stands before the first line feed
abbrev pub first_line : List ℕ → List ℕ
first_line text = take_while is_line_byte text

-- `--` and what follows it, up to a line feed
abbrev pub comment_of : List ℕ → List ℕ
comment_of text = if starts_with nat_eq text (codes "--") then first_line text else []

abbrev pub blanks_of : List ℕ → List ℕ
blanks_of text = take_while is_space text

abbrev pub blank_of : List ℕ → List ℕ
blank_of text = blanks_of text ++ comment_of (drop (length (blanks_of text)) text)

abbrev pub line_notation : Language
line_notation = record {
  Form = Form;
  spell = spelling;
  sign = sign_of;
  Stands = λ form last after. StandsBefore form after;
  flaw = line_flaw;
  blank = blank_of;
}
