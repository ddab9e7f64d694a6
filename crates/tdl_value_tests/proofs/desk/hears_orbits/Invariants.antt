use Rattle.std.proofs.Common.{◌≡◌}
use Rattle.tdl_value_tests.proofs.desk.hears_orbits.Given as goal

abbrev pub invariant-loop-change : goal.invariant-loop-change
invariant-loop-change g l = l.desk.settled ≡ 0
