-- The form of mini-notation that stands at the front of what is left of a text, found by its first byte.
use Rattle.std.specs.Prelude.{ℕ, Bool, true, false, ◌&&◌, ◌||◌, ◌==◌, if◌then◌else◌}
use Rattle.std.specs.Prelude.{Option, Some, None, Result, Ok, Err, List, [], ◌∷◌, length}
use Rattle.std.specs.List.{list_all}
use Rattle.std.specs.Char.{is_ascii_digit}
use Rattle.tdl_lexer.specs.declared.lexemes.Lexeme.{Lexeme}
use Rattle.tdl_lexer.specs.declared.signs.LexKind.{LexKind}
use Rattle.tdl_lexer.specs.Bytes.{is_run_byte, is_plain_mark, begins}
use Rattle.tdl_lexer.specs.MiniForms.{Form, Numeral, Word, Hold, Dot, Range, Plain, form_text, form_sign, fits, excess, is_word}
use Rattle.tdl_lexer.specs.Tokens.{unlisted}
use Rattle.tdl_lexer.specs.inside.FindNumber.{run_of, number_of}

abbrev pub is_hold : List ℕ → Bool
is_hold [] = false
is_hold (byte ∷ []) = byte == 95
is_hold (byte ∷ next ∷ rest) = false

abbrev pub word_form : List ℕ → Option Form
word_form run = if is_word run then Some (Word run) else None

-- what the run at the front is
abbrev pub run_form : List ℕ → Option Form
run_form text =
    if list_all is_ascii_digit (run_of text)
    then Some (Numeral (number_of false text))
    else (if is_hold (run_of text) then Some Hold else word_form (run_of text))

-- what a `-` begins, before this text
abbrev pub signed_form : List ℕ → Option Form
signed_form text = if begins is_ascii_digit text && list_all is_ascii_digit (run_of text) then Some (Numeral (number_of true text)) else None

-- what a `.` begins, before this text
abbrev pub dot_form : ℕ → List ℕ → Option Form
dot_form last text = if begins (λ byte. byte == 46) text then Some Range else (if is_run_byte last || begins is_run_byte text then None else Some Dot)

-- what a byte that is in no run begins, after a byte and before this text
abbrev pub mark_form : ℕ → ℕ → List ℕ → Option Form
mark_form last byte rest =
    if byte == 45
    then signed_form rest
    else (if byte == 46 then dot_form last rest else (if is_plain_mark byte then Some (Plain byte) else None))

abbrev pub mini_form_at : ℕ → List ℕ → Option Form
mini_form_at last [] = None
mini_form_at last (byte ∷ rest) =
    if is_run_byte byte
    then (if is_run_byte last then None else run_form (byte ∷ rest))
    else mark_form last byte rest

abbrev pub form_lexeme : Form → Result Lexeme LexKind
form_lexeme form = if fits form then Ok (record { sign = form_sign form; len = length (form_text form) }) else Err (excess form)

-- the lexeme of a form, or a fault of this kind where none stands
abbrev pub form_lexeme_or : LexKind → Option Form → Result Lexeme LexKind
form_lexeme_or kind None = Err kind
form_lexeme_or kind (Some form) = form_lexeme form

abbrev pub lexeme_after : ℕ → List ℕ → Result Lexeme LexKind
lexeme_after last rest = form_lexeme_or (unlisted rest) (mini_form_at last rest)
