use Rattle.std.proofs.Common.{◌≡◌}
use Rattle.tdl_app.specs.Served.{all_stopped}
use Rattle.tdl_app.proofs.served.all_stopped.Given as goal

abbrev pub invariant-loop-i : goal.invariant-loop-i
invariant-loop-i l = l.ends ≡ all_stopped 1 l.i
