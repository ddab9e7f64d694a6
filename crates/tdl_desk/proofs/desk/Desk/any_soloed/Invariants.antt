use Rattle.std.proofs.Common.{◌≡◌, ◌<◌, ◌≤◌, ℕ, false, List}
use Rattle.tdl_desk.specs.declared.changes.Dated.{Dated}
use Rattle.tdl_desk.specs.Desk.{desk}
use Rattle.tdl_desk.specs.Kept.{StandsFor}
use Rattle.tdl_desk.proofs.desk.Desk.any_soloed.Given as goal

abbrev pub invariant-loop-orbit : goal.invariant-loop-orbit
invariant-loop-orbit g l = (changes : List (Dated g.row.P.Denot)) → StandsFor l.self changes
    → (k : ℕ) → 1 ≤ k → k < l.orbit → (desk changes l.cycle).soloed k ≡ false
