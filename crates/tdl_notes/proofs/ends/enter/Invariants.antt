use Rattle.std.proofs.Common.{◌≡◌, ◌+◌, ◌≤◌, length, drop}
use Rattle.tdl_notes.specs.inside.Machine.{entered}
use Rattle.tdl_notes.proofs.Entering.{AllBelow}
use Rattle.tdl_notes.proofs.ends.enter.Given as goal

abbrev pub invariant-loop-tone : goal.invariant-loop-tone
invariant-loop-tone l = record {
  entered : entered l.order (drop l.tone-index l.tones) l.agenda.items ≡ entered l.number l.tones l.fn.agenda.items;
  order : l.order ≡ l.number + l.tone-index;
  room : length l.tones ≤ l.agenda.spare + l.tone-index;
  below : AllBelow l.order l.agenda.items;
}
