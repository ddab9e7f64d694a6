-- What a line looks like, for the kind of a fault in it.
--     is_decimal, is_unpadded    a number in decimal digits, with no leading zero
--     has              a byte stands in a text
--     before, behind   what stands before and behind the first such byte
--     is_part          n over d is on the grid, in lowest terms and no whole number
--     is_place         a time on the grid, in lowest terms
--     is_split         a field, a blank, and what is left
--     is_deed, is_entry, is_port, is_last    the forms of what was done, of an entry, of a port and of the last line
--     line_kind        the kind of the fault in a line with which no log goes on, behind these pieces
use Rattle.std.specs.Prelude.{ℕ, Bool, true, false, not, ◌&&◌, ◌||◌, ◌==◌, nat_lt, ◌%◌, List, [], ◌∷◌, length, codes, if◌then◌else◌}
use Rattle.std.specs.List.{list_any}
use Rattle.std.specs.Str.{all_ascii_digits, bytes_eq}
use Rattle.std.specs.Str.Parse.{digits_value}
use Rattle.tdl_fraction.specs.Divisor.{gcd}
use Rattle.tdl_fraction.specs.Units.{tick_units}
use Rattle.tdl_log.specs.declared.ends.PortEnd.{PortEnd}
use Rattle.tdl_log.specs.declared.ends.PortEnd.TheVariants as port
use Rattle.tdl_log.specs.declared.kinds.LogKind.{LogKind}
use Rattle.tdl_log.specs.declared.kinds.LogKind.TheVariants.{Count, Form, Head, Order}
use Rattle.tdl_log.specs.LogText.{end_word}
use Rattle.tdl_log.specs.Pieces.{Piece, line, rest}

-- some byte, and no zero before others
abbrev pub is_unpadded : List ℕ → Bool
is_unpadded [] = false
is_unpadded (byte ∷ bytes) = not (byte == 48) || (length bytes == 0)

abbrev pub is_decimal : List ℕ → Bool
is_decimal bytes = all_ascii_digits bytes && is_unpadded bytes

abbrev pub has : ℕ → List ℕ → Bool
has mark bytes = list_any (λ byte. byte == mark) bytes

abbrev pub before : ℕ → List ℕ → List ℕ
before mark [] = []
before mark (byte ∷ bytes) = if byte == mark then [] else byte ∷ before mark bytes

abbrev pub behind : ℕ → List ℕ → List ℕ
behind mark [] = []
behind mark (byte ∷ bytes) = if byte == mark then bytes else behind mark bytes

abbrev pub is_part : ℕ → ℕ → Bool
is_part n d = nat_lt 1 d && ((tick_units % d == 0) && (gcd n d == 1))

-- with the digits of n, and of d
abbrev pub is_over : List ℕ → List ℕ → Bool
is_over above below = is_decimal below && is_part (digits_value 10 above) (digits_value 10 below)

-- of whatever size: the last cycle is a rule of the history
abbrev pub is_place : List ℕ → Bool
is_place bytes = if has 47 bytes then is_decimal (before 47 bytes) && is_over (before 47 bytes) (behind 47 bytes) else is_decimal bytes

abbrev pub is_split : (List ℕ → Bool) → (List ℕ → Bool) → List ℕ → Bool
is_split is_field is_left bytes = has 32 bytes && (is_field (before 32 bytes) && is_left (behind 32 bytes))

abbrev pub is_word : List ℕ → List ℕ → Bool
is_word word bytes = bytes_eq bytes word

abbrev pub is_tick : List ℕ → Bool
is_tick bytes = is_split (is_word (codes "tick")) is_place bytes

-- a number, and any text: what it reads as is a rule of the history
abbrev pub is_numbered : List ℕ → Bool
is_numbered bytes = is_split is_decimal (λ text. true) bytes

abbrev pub is_swap : List ℕ → Bool
is_swap bytes = is_split (is_word (codes "swap")) is_numbered bytes

abbrev pub is_deed : List ℕ → Bool
is_deed bytes = is_word (codes "look") bytes || (is_word (codes "finish") bytes || (is_tick bytes || is_swap bytes))

abbrev pub is_timed : List ℕ → Bool
is_timed bytes = is_split is_place is_deed bytes

abbrev pub is_called : List ℕ → Bool
is_called bytes = is_split is_decimal is_timed bytes

abbrev pub is_entry : List ℕ → Bool
is_entry bytes = is_split is_decimal is_called bytes

abbrev pub all_ends : List PortEnd
all_ends = port.Eof ∷ port.Finish ∷ port.Fault ∷ port.Spent ∷ port.Memory ∷ port.Stopped ∷ []

abbrev pub is_end_word : List ℕ → Bool
is_end_word bytes = list_any (λ end. is_word (end_word end) bytes) all_ends

abbrev pub is_port : List ℕ → Bool
is_port bytes = is_split (is_word (codes "port")) (is_split is_decimal is_end_word) bytes

abbrev pub is_last : List ℕ → Bool
is_last bytes = is_split (is_word (codes "end")) is_decimal bytes

abbrev pub is_line_of : (List ℕ → Bool) → Piece → Bool
is_line_of test (line bytes) = test bytes
is_line_of test (rest bytes) = false

abbrev pub line_kind : List Piece → List ℕ → LogKind
line_kind front bytes =
    if nat_lt (length front) 3 then Head
    else (if list_any (is_line_of is_last) front then Form
    else (if is_last bytes then Count
    else (if is_port bytes || (is_entry bytes && not (list_any (is_line_of is_port) front)) then Order else Form)))
