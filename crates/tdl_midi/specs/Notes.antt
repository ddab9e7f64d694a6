-- Notes in the words of MIDI 1.0, and which a control map gives.
--     on, off                     the messages that begin and end a note: the status with the channel in it, the key, and the velocity, which is
--                                 64 in an end
--     IsNote                      the channel is 0 to 15, the key 0 to 127, the velocity 1 to 127
--     is_midi                     a sound is that of MIDI notes: the word `midi`
--     number_at                   the number of a key of a map, if it has one
--     channel_of, velocity_of     the channel of a map, 0 where it names none; the velocity, 64 where it names none
--     key_of                      its key: 60 and its `note` more, or its `n` where there is no `note`
--     within                      a number, if it is in a range
--     note_of                     the note of a map, if its sound is that of MIDI notes and all three are in range
use Rattle.std.specs.Prelude.{ℕ, ℤ, pos, negsuc, ◌+ℤ◌, ◌+◌, ◌≤◌, nat_le, ◌&&◌, Bool, false, if◌then◌else◌, List, [], ◌∷◌, codes, Option, Some, None, unwrap_or}
use Rattle.std.specs.Str.{bytes_eq}
use Rattle.tdl_control.specs.declared.keys.Key.{Key}
use Rattle.tdl_control.specs.declared.keys.Key.TheVariants.{Midichan, N, Note as NoteKey, S, Velocity}
use Rattle.tdl_control.specs.Setting.{Setting, Number, Spelling}
use Rattle.tdl_control.specs.Map.{KeyValues, lookup}
use Rattle.tdl_midi.specs.declared.Note.{Note}

-- ---- messages
abbrev pub on : Note → List ℕ
on note = (0x90 + note.channel) ∷ note.key ∷ note.velocity ∷ []

abbrev pub off : Note → List ℕ
off note = (0x80 + note.channel) ∷ note.key ∷ 64 ∷ []

pub record IsNote (note : Note) : Type 0 where
  pub channel : note.channel ≤ 15
  pub key : note.key ≤ 127
  pub sounds : 1 ≤ note.velocity
  pub velocity : note.velocity ≤ 127

-- ---- maps
abbrev pub is_midi : Option Setting → Bool
is_midi None = false
is_midi (Some (Number number)) = false
is_midi (Some (Spelling bytes)) = bytes_eq bytes (codes "midi")

-- a word is no number, and no map has one under the keys below
abbrev pub number_in : Option Setting → Option ℤ
number_in None = None
number_in (Some (Number number)) = Some number
number_in (Some (Spelling bytes)) = None

abbrev pub number_at : KeyValues → Key → Option ℤ
number_at entries key = number_in (lookup entries key)

abbrev pub channel_of : KeyValues → ℤ
channel_of entries = unwrap_or (number_at entries Midichan) (pos 0)

abbrev pub velocity_of : KeyValues → ℤ
velocity_of entries = unwrap_or (number_at entries Velocity) (pos 64)

abbrev pub key_of : KeyValues → ℤ
key_of entries = pos 60 +ℤ unwrap_or (number_at entries NoteKey) (unwrap_or (number_at entries N) (pos 0))

abbrev pub within : ℕ → ℕ → ℤ → Option ℕ
within low high (pos number) = if nat_le low number && nat_le number high then Some number else None
within low high (negsuc number) = None

abbrev pub note_with : Option ℕ → Option ℕ → Option ℕ → Option Note
note_with (Some channel) (Some key) (Some velocity) = Some (record { channel = channel; key = key; velocity = velocity })
note_with _ _ _ = None

abbrev pub note_of : KeyValues → Option Note
note_of entries =
    if is_midi (lookup entries S)
    then note_with (within 0 15 (channel_of entries)) (within 0 127 (key_of entries)) (within 1 127 (velocity_of entries))
    else None
