-- Messages that begin and end notes of a channel and a key.
--     begins, ends     the message begins, and ends, a note of them
--     HasChannels      the channels are those of MIDI
use Rattle.std.specs.Prelude.{ℕ, ◌+◌, ◌≤◌, Bool, List, [], ◌∷◌, take}
use Rattle.std.specs.List.{AllByRecursion}
use Rattle.std.specs.Str.{bytes_eq}
use Rattle.tdl_notes.specs.declared.tones.Tone.{Tone}

abbrev pub begins : ℕ → ℕ → List ℕ → Bool
begins channel key bytes = bytes_eq (take 2 bytes) ((0x90 + channel) ∷ key ∷ [])

abbrev pub ends : ℕ → ℕ → List ℕ → Bool
ends channel key bytes = bytes_eq (take 2 bytes) ((0x80 + channel) ∷ key ∷ [])

abbrev pub HasChannels : List Tone → Type 0
HasChannels score = AllByRecursion (λ tone. tone.note.channel ≤ 15) score
