-- How far a text has been read.
use Rattle.std.specs.Prelude.{◌≡◌, ℕ, ◌+◌, List, ◌++◌, length, Option, Some, None}
use Rattle.tdl_control.specs.Map.{KeyValues, print_of}
use Rattle.tdl_control.specs.Reading.{front_text}

-- the entries stand in the text before what is left of it, or they are all of it
abbrev pub IsReadTo : List ℕ → KeyValues → Option (List ℕ) → Type 0
IsReadTo text entries (Some left) = text ≡ front_text entries ++ left
IsReadTo text entries None = print_of entries ≡ text

-- how much is left
abbrev pub left_size : Option (List ℕ) → ℕ
left_size (Some left) = length left + 1
left_size None = 0
