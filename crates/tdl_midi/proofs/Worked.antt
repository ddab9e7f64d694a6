-- Worked notes: the maps that give one, and its messages.
use Rattle.std.proofs.Common.{◌≡◌, ℕ, ℤ, pos, negsuc, [], ◌∷◌, codes, Option, Some, None, refl}
use Rattle.std.specs.Option.{option_map}
use Rattle.tdl_control.specs.declared.keys.Key.{Key}
use Rattle.tdl_control.specs.declared.keys.Key.TheVariants.{Midichan, N, Note as NoteKey, S, Velocity}
use Rattle.tdl_control.specs.Setting.{Setting, Number, Spelling}
use Rattle.tdl_control.specs.Map.{KeyValues}
use Rattle.tdl_midi.specs.declared.Note.{Note}
use Rattle.tdl_midi.specs.Notes.{note_of, on, off}

abbrev midi : Key × Setting
midi = (S, Spelling (codes "midi"))

abbrev number : Key → ℤ → Key × Setting
number key value = (key, Number value)

abbrev note : ℕ → ℕ → ℕ → Option Note
note channel key velocity = Some (record { channel = channel; key = key; velocity = velocity })

-- ---- messages
begun : option_map on (note 0 67 64) ≡ Some (0x90 ∷ 67 ∷ 64 ∷ [])
begun = refl

ended : option_map off (note 0 67 100) ≡ Some (0x80 ∷ 67 ∷ 64 ∷ [])
ended = refl

begun_on_the_last_channel : option_map on (note 15 0 127) ≡ Some (0x9F ∷ 0 ∷ 127 ∷ [])
begun_on_the_last_channel = refl

ended_on_the_last_channel : option_map off (note 15 127 1) ≡ Some (0x8F ∷ 127 ∷ 64 ∷ [])
ended_on_the_last_channel = refl

-- ---- the key
abbrev with_all : KeyValues
with_all = number Midichan (pos 3) ∷ number NoteKey (pos 7) ∷ midi ∷ number Velocity (pos 100) ∷ []

all_named : note_of with_all ≡ note 3 67 100
all_named = refl

nothing_named : note_of (midi ∷ []) ≡ note 0 60 64
nothing_named = refl

by_n : note_of (number N (pos 3) ∷ midi ∷ []) ≡ note 0 63 64
by_n = refl

note_before_n : note_of (number N (pos 3) ∷ number NoteKey (pos 0) ∷ midi ∷ []) ≡ note 0 60 64
note_before_n = refl

lowest_key : note_of (number NoteKey (negsuc 59) ∷ midi ∷ []) ≡ note 0 0 64
lowest_key = refl

below_the_lowest : note_of (number NoteKey (negsuc 60) ∷ midi ∷ []) ≡ None
below_the_lowest = refl

highest_key : note_of (number NoteKey (pos 67) ∷ midi ∷ []) ≡ note 0 127 64
highest_key = refl

above_the_highest : note_of (number NoteKey (pos 68) ∷ midi ∷ []) ≡ None
above_the_highest = refl

-- where there is a `note`, `n` may be out of range
n_is_not_looked_at : note_of (number N (pos 68) ∷ number NoteKey (pos 1) ∷ midi ∷ []) ≡ note 0 61 64
n_is_not_looked_at = refl

greatest_number : note_of (number NoteKey (pos 2147483647) ∷ midi ∷ []) ≡ None
greatest_number = refl

-- ---- the channel
last_channel : note_of (number Midichan (pos 15) ∷ midi ∷ []) ≡ note 15 60 64
last_channel = refl

channel_sixteen : note_of (number Midichan (pos 16) ∷ midi ∷ []) ≡ None
channel_sixteen = refl

channel_below_zero : note_of (number Midichan (negsuc 0) ∷ midi ∷ []) ≡ None
channel_below_zero = refl

-- ---- the velocity
velocity_zero : note_of (midi ∷ number Velocity (pos 0) ∷ []) ≡ None
velocity_zero = refl

softest : note_of (midi ∷ number Velocity (pos 1) ∷ []) ≡ note 0 60 1
softest = refl

loudest : note_of (midi ∷ number Velocity (pos 127) ∷ []) ≡ note 0 60 127
loudest = refl

too_loud : note_of (midi ∷ number Velocity (pos 128) ∷ []) ≡ None
too_loud = refl

-- ---- the sound
no_sound : note_of (number NoteKey (pos 7) ∷ []) ≡ None
no_sound = refl

other_sound : note_of (number NoteKey (pos 7) ∷ (S, Spelling (codes "midi2")) ∷ []) ≡ None
other_sound = refl

-- ---- what no map has: a word under the key of a number is none
word_for_a_number : note_of ((NoteKey, Spelling (codes "high")) ∷ midi ∷ []) ≡ note 0 60 64
word_for_a_number = refl
