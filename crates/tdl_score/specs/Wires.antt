-- What is sent of what changes play.
--     Protocol        the two wires: OSC at a tempo, and MIDI
--     goes_to_osc     a row is sent as OSC unless its sound is `midi`
--     sent_of         what a wire is sent of the rows that begin before so many tick units: one packet a row that goes to OSC; the messages of
--                     the notes up to that time, and after a finish those of the ends that are left, too
--     HasSent         a history sends these packets to a wire: those of its changes, up to its frontier
--     HasOsc          to the wire of OSC
--     HasMidi         to the wire of MIDI
use Rattle.std.specs.Prelude.{◌≡◌, ℕ, Bool, not, if◌then◌else◌, List, map, filter}
use Rattle.tdl_control.specs.declared.keys.Key.TheVariants.{S}
use Rattle.tdl_control.specs.Map.{lookup}
use Rattle.tdl_fraction.specs.Units.{time_of}
use Rattle.tdl_event.specs.declared.rows.Row.{Row}
use Rattle.tdl_midi.specs.Notes.{is_midi}
use Rattle.tdl_notes.specs.Notes.{tones, midi as midi_before, midi_finished}
use Rattle.tdl_tempo.specs.Tempo.{Pace}
use Rattle.tdl_osc.specs.Bundle.{bytes_of}
use Rattle.tdl_desk.specs.declared.changes.Dated.{Dated}
use Rattle.tdl_expr.specs.Tree.{Tree}
use Rattle.tdl_score.specs.declared.histories.Entry.{Entry}
use Rattle.tdl_score.specs.Readings.{Reading}
use Rattle.tdl_score.specs.History.{frontier, is_finished}
use Rattle.tdl_score.specs.Changes.{HasChanges}
use Rattle.tdl_score.specs.Score.{score}

pub data Protocol : Type 0 where
  osc : Pace → Protocol
  midi : Protocol

abbrev pub goes_to_osc : Row → Bool
goes_to_osc row = not (is_midi (lookup row.controls S))

-- the packets of some rows, in their order
abbrev pub packets_of : Pace → List Row → List (List ℕ)
packets_of tempo rows = map (λ row. bytes_of row tempo) (filter goes_to_osc rows)

abbrev pub sent_of : Protocol → Bool → ℕ → List Row → List (List ℕ)
sent_of (osc tempo) finished units rows = packets_of tempo rows
sent_of midi finished units rows = if finished then midi_finished (time_of units) (tones rows) else midi_before (time_of units) (tones rows)

pub record HasSent (Reads : Reading) (wire : Protocol) (entries : List Entry) (packets : List (List ℕ)) : Type 0 where
  pub changes : List (Dated Tree)
  pub has : HasChanges Reads entries changes
  pub sent : packets ≡ sent_of wire (is_finished entries) (frontier entries) (score changes (frontier entries))

abbrev pub HasOsc : Reading → Pace → List Entry → List (List ℕ) → Type 0
HasOsc Reads tempo entries packets = HasSent Reads (osc tempo) entries packets

abbrev pub HasMidi : Reading → List Entry → List (List ℕ) → Type 0
HasMidi Reads entries messages = HasSent Reads midi entries messages
