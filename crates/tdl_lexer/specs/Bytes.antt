-- Bytes of the notation, and the pieces that they make.
--     is_run_byte       a letter, a digit, `_` or `#`
--     is_plain_mark     a mark of one byte that is a token of mini-notation wherever it stands
--     is_name_byte      a letter, a digit, `_` or `'`
--     is_text_byte      what may stand in a quoted text: any byte but `"`
--     is_line_byte      what may stand in a comment: any byte but a line feed
--     begins p text     the text begins with a byte that passes p
use Rattle.std.specs.Prelude.{ℕ, Bool, false, not, ◌||◌, ◌==◌, List, [], ◌∷◌, codes}
use Rattle.std.specs.List.{list_any}
use Rattle.std.specs.Char.{is_ascii_alphanumeric}

abbrev pub is_space : ℕ → Bool
is_space byte = byte == 32

abbrev pub is_quote : ℕ → Bool
is_quote byte = byte == 34

abbrev pub is_run_byte : ℕ → Bool
is_run_byte byte = is_ascii_alphanumeric byte || (byte == 95) || (byte == 35)

abbrev pub is_plain_mark : ℕ → Bool
is_plain_mark byte = list_any (λ mark. mark == byte) (codes "~[]<>{}(),!*/@:%?|^")

abbrev pub is_name_byte : ℕ → Bool
is_name_byte byte = is_ascii_alphanumeric byte || (byte == 95) || (byte == 39)

abbrev pub is_text_byte : ℕ → Bool
is_text_byte byte = not (is_quote byte)

abbrev pub is_line_byte : ℕ → Bool
is_line_byte byte = not (byte == 10)

abbrev pub begins : (ℕ → Bool) → List ℕ → Bool
begins p [] = false
begins p (byte ∷ rest) = p byte
