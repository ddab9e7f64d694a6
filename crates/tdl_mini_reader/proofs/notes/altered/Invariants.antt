use Rattle.std.proofs.Common.{◌≡◌, ◌+◌, ◌≤◌, drop}
use Rattle.std.specs.Prelude.{unsigned_abs}
use Rattle.tdl_mini_machine.specs.Notes.{altered_note}
use Rattle.tdl_mini_reader.proofs.notes.altered.Given as goal

abbrev pub invariant-loop-i : goal.invariant-loop-i
invariant-loop-i l = record {
  same : altered_note l.letter l.signs ≡ altered_note l.note (drop l.i l.signs);
  small : unsigned_abs l.note ≤ 11 + l.i;
}
