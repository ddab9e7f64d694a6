use Rattle.std.proofs.Common.{◌≡◌, ◌+◌, ◌≤◌, ◌++◌, length, map, drop, vec_len, vec_capacity}
use Rattle.std.specs.List.{AllByRecursion}
use Rattle.tdl_midi.specs.Notes.{IsNote}
use Rattle.tdl_notes.specs.Notes.{message}
use Rattle.tdl_notes.specs.inside.Machine.{played, left}
use Rattle.tdl_notes.proofs.ends.play.Given as goal

abbrev pub invariant-loop-tone : goal.invariant-loop-tone
invariant-loop-tone l = record {
  messages : l.messages.items ++ map message (played l.to (drop l.tone-index l.tones) l.agenda.items)
      ≡ l.fn.messages.items ++ map message (played l.to l.tones l.fn.agenda.items);
  left : left l.to (drop l.tone-index l.tones) l.agenda.items ≡ left l.to l.tones l.fn.agenda.items;
  ends : AllByRecursion (λ item. IsNote item.note) l.agenda.items;
  room : vec_len l.messages + length l.agenda.items + length l.tones ≤ vec_capacity l.messages + l.tone-index;
}
