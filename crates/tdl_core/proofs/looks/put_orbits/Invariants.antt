use Rattle.std.proofs.Common.{◌≡◌, ◌≤◌, ◌+◌, ◌*◌, ◌-◌, List, filter}
use Rattle.std.specs.List.{list_any, range_with_len}
use Rattle.arrayvec.specs.ArrayVec.{array_vec_len}
use Rattle.tdl_compile.specs.Compiled.{Compiled}
use Rattle.tdl_desk.specs.declared.changes.Dated.{Dated}
use Rattle.tdl_desk.specs.Desk.{desk, orbits}
use Rattle.tdl_desk.specs.Kept.{StandsFor}
use Rattle.tdl_core.specs.inside.Orbits.{is_shown}
use Rattle.tdl_core.proofs.OrbitLists.{IsListedSoFar}
use Rattle.tdl_core.proofs.looks.put_orbits.Given as goal

abbrev pub invariant-loop-orbit : goal.invariant-loop-orbit
invariant-loop-orbit l =
    ((kept : List (Dated Compiled)) → StandsFor l.desk kept → l.any_soloed ≡ list_any (desk kept l.cycle).soloed orbits
    → IsListedSoFar l.fn.text.items l.text.items l.is_first (filter (is_shown l.shown (desk kept l.cycle)) (range_with_len 1 (l.orbit - 1))))
    × (array_vec_len l.text ≤ array_vec_len l.fn.text + 3 * (l.orbit - 1))
