-- The script of a drill: lines that are drawn from a number, one after another, and then the finish.
--     next_number     the number that comes after a number
--     kind_of         which kind of line a number draws, of five
--     amount_of       how much of it
--     place_by        where the last tick is after a number's line, in tick units
--     line_by         the line that a number draws, where the last tick is then
--     lines_from      so many lines from a number and the place of the last tick on, and then the finish
--     drill_lines     the script
use Rattle.std.specs.Prelude.{ℕ, zero, suc, ◌+◌, ◌*◌, ◌/◌, ◌%◌, ◌^◌, ◌==◌, if◌then◌else◌, List, [], ◌∷◌, ◌++◌, codes}
use Rattle.std.specs.Fmt.{decimal}
use Rattle.tdl_fraction.specs.Printing.{print_of}
use Rattle.tdl_fraction.specs.Units.{time_of}

abbrev pub next_number : ℕ → ℕ
next_number number = (1103515245 * number + 12345) % 2 ^ 31

-- what a number draws
abbrev pub drawn_by : ℕ → ℕ
drawn_by number = number / 65536

abbrev pub kind_of : ℕ → ℕ
kind_of number = drawn_by number % 5

abbrev pub amount_of : ℕ → ℕ
amount_of number = drawn_by number / 5

-- the first kind is a tick, by 1/46,080 cycle or more
abbrev pub place_by : ℕ → ℕ → ℕ
place_by number place = if kind_of number == 0 then place + (1 + amount_of number) else place

-- a tick to the place of the last tick
abbrev pub tick_line : ℕ → List ℕ
tick_line place = codes "tick " ++ print_of (time_of place)

-- orbit 1 gets a drum so many times, from 1 to 16, and a snare
abbrev pub drum_line : ℕ → List ℕ
drum_line amount = codes "p1 d1 $ s \"bd*" ++ decimal (1 + amount % 16) ++ codes " sn\""

-- orbit 2 jumps to a note, from the next multiple of 1 to 8 cycles on
abbrev pub jump_line : ℕ → List ℕ
jump_line amount =
    codes "p2 jumpMod 2 " ++ decimal (1 + amount % 8) ++ codes " $ note \"0 " ++ decimal (amount % 12) ++ codes "\" # s \"midi\""

abbrev pub solo_line : ℕ → List ℕ
solo_line amount = if amount % 2 == 0 then codes "p3 solo 1" else codes "p3 unsolo 1"

abbrev pub look_line : List ℕ
look_line = codes "p4 look"

abbrev pub finish_line : List ℕ
finish_line = codes "finish"

abbrev pub line_of_kind : ℕ → ℕ → ℕ → List ℕ
line_of_kind kind amount place =
    if kind == 0 then tick_line place else if kind == 1 then drum_line amount
    else if kind == 2 then jump_line amount else if kind == 3 then solo_line amount else look_line

abbrev pub line_by : ℕ → ℕ → List ℕ
line_by number place = line_of_kind (kind_of number) (amount_of number) place

unfoldable pub lines_from : ℕ → ℕ → ℕ → List (List ℕ)
lines_from number place zero = finish_line ∷ []
lines_from number place (suc count) =
    line_by (next_number number) (place_by (next_number number) place)
    ∷ lines_from (next_number number) (place_by (next_number number) place) count

-- so many lines are drawn from the number on, while the last tick is at 0
abbrev pub drill_lines : ℕ → ℕ → List (List ℕ)
drill_lines start count = lines_from start 0 count
