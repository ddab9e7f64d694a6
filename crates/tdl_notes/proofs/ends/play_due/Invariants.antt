use Rattle.std.proofs.Common.{◌≡◌, ◌+◌, ◌++◌, length, map, vec_len, vec_capacity}
use Rattle.std.specs.List.{AllByRecursion}
use Rattle.tdl_midi.specs.Notes.{IsNote}
use Rattle.tdl_notes.specs.Notes.{message}
use Rattle.tdl_notes.specs.Waiting.{end_mark}
use Rattle.tdl_notes.specs.inside.Machine.{front, rest, is_due}
use Rattle.tdl_notes.proofs.ends.play_due.Given as goal

abbrev pub invariant-loop-item : goal.invariant-loop-item
invariant-loop-item l = record {
  messages : l.messages.items ++ map message (map end_mark (front (is_due l.due) l.agenda.items))
      ≡ l.fn.messages.items ++ map message (map end_mark (front (is_due l.due) l.fn.agenda.items));
  left : rest (is_due l.due) l.agenda.items ≡ rest (is_due l.due) l.fn.agenda.items;
  ends : AllByRecursion (λ item. IsNote item.note) l.agenda.items;
  room : vec_len l.messages + length l.agenda.items ≡ vec_len l.fn.messages + length l.fn.agenda.items;
  capacity : vec_capacity l.messages ≡ vec_capacity l.fn.messages;
}

abbrev pub decreases-loop-item : goal.decreases-loop-item
decreases-loop-item l = length l.agenda.items
