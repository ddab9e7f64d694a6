use Rattle.std.proofs.Common.{◌≡◌, ◌-◌, List, map}
use Rattle.std.specs.List.{AllByRecursion, flat_map, range_with_len}
use Rattle.tdl_compile.specs.Compiled.{Compiled}
use Rattle.tdl_desk.specs.declared.changes.Dated.{Dated}
use Rattle.tdl_desk.specs.Desk.{desk as desk_of}
use Rattle.tdl_desk.specs.Kept.{StandsFor}
use Rattle.tdl_score.specs.Programs.{dated_tree, due}
use Rattle.tdl_score.specs.Score.{IsRowOf, orbit_rows}
use Rattle.tdl_score.proofs.onsets.rows_in.Given as goal

abbrev pub invariant-loop-orbit : goal.invariant-loop-orbit
invariant-loop-orbit g l = record {
  rows : (kept : List (Dated Compiled)) → StandsFor l.desk kept → l.rows.items
      ≡ due l.span.from l.span.to (flat_map (orbit_rows l.cycle (desk_of (map dated_tree kept) l.cycle)) (range_with_len 1 (l.orbit - 1)));
  known : AllByRecursion (IsRowOf l.cycle) l.rows.items;
}
