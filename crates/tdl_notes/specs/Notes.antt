-- The notes of a score, and what is sent of them.
--     tone_of             the note of a row, from its onset up to its whole's end; a row whose map gives no note has none
--     tones               the notes of rows, in their order
--     Mark                a note begins or ends at a time
--     on_of, off_of       where a tone begins, and where it ends
--     marks               all that begins and ends in a score, in order of time; at one time what ends comes first; what ends and what begins is
--                         in the order of the score
--     message             the message of a mark
--     marks_before        the marks before a time
--     offs_left           the ends that are not before it
--     midi                the messages of a score up to a time
--     midi_finished       so too, and the ends that are left, at once
use Rattle.std.specs.Prelude.{ℕ, Bool, true, false, not, ◌&&◌, if◌then◌else◌, List, ◌++◌, map, filter, Option}
use Rattle.std.specs.List.{filter_map}
use Rattle.std.specs.Option.{option_map}
use Rattle.tdl_fraction.specs.Rational.{Rational, ◌+ℚ◌}
use Rattle.tdl_event.specs.declared.rows.Row.{Row}
use Rattle.tdl_midi.specs.declared.Note.{Note}
use Rattle.tdl_midi.specs.Notes.{note_of, on, off}
use Rattle.tdl_order.specs.TimeOrder.{by_time, is_before, is_from}
use Rattle.tdl_notes.specs.declared.tones.Tone.{Tone}

-- ---- the notes of rows
abbrev pub tone_of : Row → Option Tone
tone_of row = option_map (λ note. record { onset = row.onset; stop = row.onset +ℚ row.length; note = note }) (note_of row.controls)

abbrev pub tones : List Row → List Tone
tones rows = filter_map tone_of rows

-- ---- where they begin and end
pub record Mark : Type 0 where
  pub time : Rational
  pub is_on : Bool
  pub note : Note

abbrev pub time_of : Mark → Rational
time_of mark = mark.time

abbrev pub on_of : Tone → Mark
on_of tone = record { time = tone.onset; is_on = true; note = tone.note }

abbrev pub off_of : Tone → Mark
off_of tone = record { time = tone.stop; is_on = false; note = tone.note }

unfoldable pub marks : List Tone → List Mark
marks score = by_time time_of (map off_of score ++ map on_of score)

abbrev pub marks_before : Rational → List Tone → List Mark
marks_before frontier score = filter (is_before time_of frontier) (marks score)

abbrev pub is_off_from : Rational → Mark → Bool
is_off_from frontier mark = not mark.is_on && is_from time_of frontier mark

abbrev pub offs_left : Rational → List Tone → List Mark
offs_left frontier score = filter (is_off_from frontier) (marks score)

-- ---- messages
abbrev pub message : Mark → List ℕ
message mark = if mark.is_on then on mark.note else off mark.note

unfoldable pub midi : Rational → List Tone → List (List ℕ)
midi frontier score = map message (marks_before frontier score)

unfoldable pub midi_finished : Rational → List Tone → List (List ℕ)
midi_finished frontier score = midi frontier score ++ map message (offs_left frontier score)
