-- The parts of a note name.
--     is_octave       one or two digits
--     raise_of        by how much a sign raises a note
use Rattle.std.specs.Prelude.{ℕ, Bool, ◌==◌, ◌&&◌, ◌||◌, if◌then◌else◌, ℤ, pos, negsuc, Option, Some, None, List, length}
use Rattle.std.specs.Char.{is_ascii_digit}
use Rattle.std.specs.List.{list_all}

abbrev pub is_octave : List ℕ → Bool
is_octave text = ((length text == 1) || (length text == 2)) && list_all is_ascii_digit text

abbrev pub raise_of : ℕ → Option ℤ
raise_of sign =
    if (sign == 115) || (sign == 35) then Some (pos 1)
    else (if sign == 102 then Some (negsuc 0)
    else (if sign == 110 then Some (pos 0)
    else None))
