-- What is due while it is put together.
--     Gained    some rows more: their packets and their notes stand behind those that were there, and if these were notes of MIDI, all are
use Rattle.std.specs.Prelude.{◌≡◌, List, ◌++◌}
use Rattle.std.specs.List.{AllByRecursion}
use Rattle.tdl_event.specs.declared.rows.Row.{Row}
use Rattle.tdl_midi.specs.Notes.{IsNote}
use Rattle.tdl_notes.specs.declared.tones.Tone.{Tone}
use Rattle.tdl_notes.specs.Notes.{tones}
use Rattle.tdl_tempo.specs.Tempo.{Pace}
use Rattle.tdl_score.specs.declared.due.Due.{Due}
use Rattle.tdl_score.specs.Wires.{packets_of}

abbrev pub AreNotes : List Tone → Type 0
AreNotes list = AllByRecursion (λ tone. IsNote tone.note) list

pub record Gained (tempo : Pace) (old new : Due) (rows : List Row) : Type 0 where
  pub osc : new.osc ≡ old.osc ++ packets_of tempo rows
  pub tones : new.tones.items ≡ old.tones.items ++ tones rows
  pub notes : AreNotes old.tones.items → AreNotes new.tones.items
