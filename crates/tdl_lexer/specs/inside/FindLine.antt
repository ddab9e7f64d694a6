-- The form of a performer's line that stands at the front of what is left of it, found by its first byte.
use Rattle.std.specs.Prelude.{ℕ, false, if◌then◌else◌, Option, Some, None, List, [], ◌∷◌, length, drop}
use Rattle.std.specs.List.{list_all, take_while}
use Rattle.std.specs.Char.{is_ascii_digit, is_ascii_lowercase}
use Rattle.tdl_lexer.specs.Bytes.{is_quote, is_name_byte, is_text_byte, begins}
use Rattle.tdl_lexer.specs.LineForms.{Form, Numeral, Name, Quoted, Open, Mark, mark_of}
use Rattle.tdl_lexer.specs.inside.FindNumber.{run_of, number_of}

abbrev pub name_of : List ℕ → List ℕ
name_of text = take_while is_name_byte text

abbrev pub unsigned_form : List ℕ → Option Form
unsigned_form text = if list_all is_ascii_digit (run_of text) then Some (Numeral (number_of false text)) else None

-- how many bytes a mark has that was found
abbrev pub mark_len : Option (List ℕ) → Option ℕ
mark_len None = None
mark_len (Some mark) = Some (length mark)

-- what stands between a `"` before this text and the next
abbrev pub text_of : List ℕ → List ℕ
text_of text = take_while is_text_byte text

abbrev pub quoted_form : List ℕ → Form
quoted_form text = if begins is_quote (drop (length (text_of text)) text) then Quoted (text_of text) else Open (text_of text)

abbrev pub marked : Option (List ℕ) → Option Form
marked None = None
marked (Some mark) = Some (Mark mark)

abbrev pub line_form_at : List ℕ → Option Form
line_form_at [] = None
line_form_at (byte ∷ rest) =
    if is_ascii_lowercase byte
    then Some (Name (name_of (byte ∷ rest)))
    else (if is_ascii_digit byte
    then unsigned_form (byte ∷ rest)
    else (if is_quote byte then Some (quoted_form rest) else marked (mark_of (byte ∷ rest))))
