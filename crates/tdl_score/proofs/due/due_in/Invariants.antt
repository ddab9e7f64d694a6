use Rattle.std.proofs.Common.{◌≡◌, ◌-◌, List, map}
use Rattle.std.specs.List.{flat_map, range_with_len}
use Rattle.tdl_compile.specs.Compiled.{Compiled}
use Rattle.tdl_desk.specs.declared.changes.Dated.{Dated}
use Rattle.tdl_desk.specs.Kept.{StandsFor}
use Rattle.tdl_notes.specs.Notes.{tones as tones_of}
use Rattle.tdl_score.specs.Programs.{dated_tree, due}
use Rattle.tdl_score.specs.Score.{rows as rows_of}
use Rattle.tdl_score.specs.Wires.{packets_of}
use Rattle.tdl_score.specs.inside.Dues.{AreNotes}
use Rattle.tdl_score.proofs.due.due_in.Given as goal

abbrev pub invariant-loop-cycle : goal.invariant-loop-cycle
invariant-loop-cycle g l = record {
  osc : (kept : List (Dated Compiled)) → StandsFor l.desk kept → l.due.osc
      ≡ packets_of l.tempo
      (flat_map (λ cycle. due l.span.from l.span.to (rows_of (map dated_tree kept) cycle)) (range_with_len l.first (l.cycle - l.first)));
  tones : (kept : List (Dated Compiled)) → StandsFor l.desk kept → l.due.tones.items
      ≡ tones_of (flat_map (λ cycle. due l.span.from l.span.to (rows_of (map dated_tree kept) cycle)) (range_with_len l.first (l.cycle - l.first)));
  notes : AreNotes l.due.tones.items;
}
