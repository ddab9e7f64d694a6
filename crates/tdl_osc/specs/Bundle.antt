-- The bundle of a row, as the sound engine takes it.
--     bundle_bytes     a bundle of OSC 1.0 with one message
--     row_arguments    the cycle and the length of the row, its orbit, and its controls
--     message_of       the message with these arguments to `/dirt/play`
--     bytes_of         the bundle of the row's message, timed at its onset
use Rattle.std.specs.Prelude.{ℕ, ℤ, pos, ◌-ℤ◌, List, [], ◌∷◌, ◌++◌, length, codes}
use Rattle.std.specs.List.{flat_map}
use Rattle.tdl_control.specs.declared.keys.Key.{Key}
use Rattle.tdl_control.specs.Key.{name_of}
use Rattle.tdl_control.specs.Setting.{Setting, Number, Spelling}
use Rattle.tdl_control.specs.Map.{KeyValues}
use Rattle.tdl_event.specs.declared.rows.Row.{Row}
use Rattle.tdl_fraction.specs.Rational.{floor}
use Rattle.tdl_tempo.specs.Tempo.{Pace, timetag, micros}
use Rattle.tdl_osc.specs.Encoding.{int32_bytes, time_bytes, osc_string}
use Rattle.tdl_osc.specs.Message.{Argument, Int, Word, message_bytes}

-- the head, the time tag, and the message after its size
unfoldable pub bundle_bytes : ℤ → List ℕ → List ℕ
bundle_bytes tag message =
    osc_string (codes "#bundle") ++ time_bytes tag ++ int32_bytes (pos (length message)) ++ message

abbrev pub setting_argument : Setting → Argument
setting_argument (Number number) = Int number
setting_argument (Spelling bytes) = Word bytes

-- the key's name and its value
abbrev pub entry_arguments : Key × Setting → List Argument
entry_arguments entry = Word (name_of entry.0) ∷ setting_argument entry.1 ∷ []

-- those of each key, in byte order of the keys
abbrev pub control_arguments : KeyValues → List Argument
control_arguments controls = flat_map entry_arguments controls

-- the cycle of the onset, the length in microseconds, and the orbit from 0
abbrev pub time_arguments : Row → Pace → List Argument
time_arguments row tempo =
    Word (codes "cycle") ∷ Int (floor row.onset)
    ∷ Word (codes "delta") ∷ Int (micros tempo row.length)
    ∷ Word (codes "orbit") ∷ Int (pos row.orbit -ℤ pos 1) ∷ []

abbrev pub row_arguments : Row → Pace → List Argument
row_arguments row tempo = time_arguments row tempo ++ control_arguments row.controls

-- the message of the row
unfoldable pub message_of : Row → Pace → List ℕ
message_of row tempo = message_bytes (codes "/dirt/play") (row_arguments row tempo)

unfoldable pub bytes_of : Row → Pace → List ℕ
bytes_of row tempo = bundle_bytes (timetag tempo row.onset) (message_of row tempo)
