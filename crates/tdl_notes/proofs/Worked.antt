-- Worked scores, in quarters of a cycle.
use Rattle.std.proofs.Common.{◌≡◌, ℕ, pos, List, [], ◌∷◌, codes, refl}
use Rattle.tdl_fraction.specs.Divisor.{gcd}
use Rattle.tdl_fraction.specs.Rational.{Rational, frac, lt_ℚ, ◌+ℚ◌}
use Rattle.tdl_control.specs.declared.keys.Key.TheVariants.{Note as NoteKey, S}
use Rattle.tdl_control.specs.Setting.{Number, Spelling}
use Rattle.tdl_control.specs.Map.{KeyValues}
use Rattle.tdl_event.specs.declared.rows.Row.{Row}
use Rattle.tdl_midi.specs.declared.Note.{Note}
use Rattle.tdl_notes.specs.declared.tones.Tone.{Tone}
use Rattle.tdl_notes.specs.Notes.{tones, marks, midi, midi_finished}

abbrev quarters : ℕ → Rational
quarters n = frac (pos n) 4

abbrev note : ℕ → Note
note key = record { channel = 0; key = key; velocity = 64 }

abbrev tone : ℕ → ℕ → ℕ → Tone
tone onset stop key = record { onset = quarters onset; stop = quarters stop; note = note key }

abbrev begins : ℕ → List ℕ
begins key = 144 ∷ key ∷ 64 ∷ []

abbrev ends : ℕ → List ℕ
ends key = 128 ∷ key ∷ 64 ∷ []

-- ---- rows
abbrev row : ℕ → ℕ → KeyValues → Row
row onset length controls = record { onset = quarters onset; length = quarters length; orbit = 1; controls = controls }

abbrev midi_note : ℕ → KeyValues
midi_note number = (NoteKey, Number (pos number)) ∷ (S, Spelling (codes "midi")) ∷ []

abbrev drum : KeyValues
drum = (S, Spelling (codes "bd")) ∷ []

rows_in_a_row : tones (row 0 2 (midi_note 0) ∷ row 1 1 drum ∷ row 2 2 (midi_note 7) ∷ []) ≡ tone 0 2 60 ∷ tone 2 4 67 ∷ []
unfolding frac gcd ◌+ℚ◌
rows_in_a_row = refl

-- ---- two notes, one after the other: at 1/2 the first ends, and then the second begins
abbrev two : List Tone
two = tone 0 2 60 ∷ tone 2 4 67 ∷ []

two_notes : midi (quarters 5) two ≡ begins 60 ∷ ends 60 ∷ begins 67 ∷ ends 67 ∷ []
unfolding midi marks frac lt_ℚ gcd
two_notes = refl

-- up to 1/2, what is at 1/2 is not sent yet
up_to_the_second : midi (quarters 2) two ≡ begins 60 ∷ []
unfolding midi marks frac lt_ℚ gcd
up_to_the_second = refl

finished_at_the_second : midi_finished (quarters 2) (tone 0 2 60 ∷ []) ≡ begins 60 ∷ ends 60 ∷ []
unfolding midi_finished midi marks frac lt_ℚ gcd
finished_at_the_second = refl

-- the same key again: it ends, and begins anew
same_key_again : midi (quarters 5) (tone 0 2 60 ∷ tone 2 4 60 ∷ []) ≡ begins 60 ∷ ends 60 ∷ begins 60 ∷ ends 60 ∷ []
unfolding midi marks frac lt_ℚ gcd
same_key_again = refl

-- equal notes are sent twice
equal_notes : midi (quarters 3) (tone 0 2 60 ∷ tone 0 2 60 ∷ []) ≡ begins 60 ∷ begins 60 ∷ ends 60 ∷ ends 60 ∷ []
unfolding midi marks frac lt_ℚ gcd
equal_notes = refl

chord : midi (quarters 3) (tone 0 2 64 ∷ tone 0 2 60 ∷ tone 0 2 67 ∷ []) ≡ begins 64 ∷ begins 60 ∷ begins 67 ∷ ends 64 ∷ ends 60 ∷ ends 67 ∷ []
unfolding midi marks frac lt_ℚ gcd
chord = refl

-- ends that come in another order than what began them
finish_by_ends : midi_finished (quarters 1) (tone 0 4 60 ∷ tone 0 2 67 ∷ []) ≡ begins 60 ∷ begins 67 ∷ ends 67 ∷ ends 60 ∷ []
unfolding midi_finished midi marks frac lt_ℚ gcd
finish_by_ends = refl
