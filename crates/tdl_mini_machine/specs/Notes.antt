-- Note names.
--     note_of    the note of a name, where a word is one: a letter, then `s`, `#`, `f` and `n`, and then
--                an octave of one or two digits, 5 without it
use Rattle.std.specs.Prelude.{ℕ, ◌==◌, ◌||◌, if◌then◌else◌, ℤ, pos, ◌+ℤ◌, ◌-ℤ◌, ◌*ℤ◌, Option, Some, None, List, [], ◌∷◌, option_and_then}
use Rattle.std.specs.Char.{is_ascii_digit}
use Rattle.std.specs.List.{list_all}
use Rattle.std.specs.Str.Parse.{digits_value}

-- c d e f g a b
abbrev pub letter_note : ℕ → Option ℤ
letter_note letter =
    if letter == 99 then Some (pos 0)
    else (if letter == 100 then Some (pos 2)
    else (if letter == 101 then Some (pos 4)
    else (if letter == 102 then Some (pos 5)
    else (if letter == 103 then Some (pos 7)
    else (if letter == 97 then Some (pos 9)
    else (if letter == 98 then Some (pos 11)
    else None))))))

abbrev pub octave_note : ℤ → List ℕ → Option ℤ
octave_note note (a ∷ []) = if is_ascii_digit a then Some (note +ℤ pos 12 *ℤ (pos (digits_value 10 (a ∷ [])) -ℤ pos 5)) else None
octave_note note (a ∷ b ∷ []) = if list_all is_ascii_digit (a ∷ b ∷ []) then Some (note +ℤ pos 12 *ℤ (pos (digits_value 10 (a ∷ b ∷ [])) -ℤ pos 5)) else None
octave_note note [] = None
octave_note note (a ∷ b ∷ c ∷ rest) = None

-- what the signs and the octave make of a note; `s` and `#` raise it by one, `f` lowers it, `n` leaves it
abbrev pub altered_note : ℤ → List ℕ → Option ℤ
altered_note note [] = Some note
altered_note note (sign ∷ rest) =
    if (sign == 115) || (sign == 35) then altered_note (note +ℤ pos 1) rest
    else (if sign == 102 then altered_note (note -ℤ pos 1) rest
    else (if sign == 110 then altered_note note rest
    else octave_note note (sign ∷ rest)))

abbrev pub note_of : List ℕ → Option ℤ
note_of [] = None
note_of (letter ∷ rest) = option_and_then (λ note. altered_note note rest) (letter_note letter)
