-- Texts of numbers whose parts a number can hold.
--     fits_number      the bytes are those of a number whose parts fit
use Rattle.std.specs.Prelude.{ℕ, Bool, true, ◌&&◌, ◌==◌, nat_le, if◌then◌else◌, List, [], ◌∷◌, length, drop}
use Rattle.std.specs.List.{list_all, take_while}
use Rattle.std.specs.Char.{is_ascii_digit}
use Rattle.std.specs.Str.Parse.{digits_value}
use Rattle.tdl_lexer.specs.Numbers.{tail_fits}
use Rattle.tdl_control.specs.Limits.{max_whole}

abbrev pub fits_tail : List ℕ → Bool
fits_tail [] = true
fits_tail (byte ∷ rest) = list_all is_ascii_digit rest && tail_fits (byte ∷ rest)

abbrev pub fits_unsigned : List ℕ → Bool
fits_unsigned text = nat_le (digits_value 10 (take_while is_ascii_digit text)) max_whole && fits_tail (drop (length (take_while is_ascii_digit text)) text)

abbrev pub fits_number : List ℕ → Bool
fits_number [] = true
fits_number (byte ∷ rest) = if byte == 45 then fits_unsigned rest else fits_unsigned (byte ∷ rest)
