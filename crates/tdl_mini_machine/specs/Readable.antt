-- What is known of a token that is read.
--     is_short           a text of no more bytes than a word has
--     is_readable_byte   a letter, a digit, `_` or `#`
--     is_readable        words and plain digits are of bytes that a text may have there
use Rattle.std.specs.Prelude.{ℕ, Bool, true, not, ◌&&◌, ◌||◌, ◌==◌, nat_le, nat_lt, List, length}
use Rattle.std.specs.List.{list_all, list_any}
use Rattle.std.specs.Char.{is_ascii_digit, is_ascii_alphabetic}
use Rattle.tdl_control.specs.Limits.{max_word}
use Rattle.tdl_mini_tree.specs.Numbers.{is_whole}
use Rattle.tdl_control.specs.WordForm.{is_word_byte}
use Rattle.tdl_mini_machine.specs.Tokens.{Tok, digits, letters, mark, end}

abbrev pub is_short : List ℕ → Bool
is_short text = nat_le (length text) max_word

abbrev pub is_readable_byte : ℕ → Bool
is_readable_byte byte = is_word_byte byte || (byte == 35)

abbrev pub is_readable : Tok → Bool
is_readable (digits n text is_count) = not (is_whole n) || n.is_negative || (list_all is_ascii_digit text && nat_lt 0 (length text))
is_readable (letters text is_count) = is_short text && list_all is_readable_byte text && list_any is_ascii_alphabetic text
is_readable (mark m) = true
is_readable end = true
