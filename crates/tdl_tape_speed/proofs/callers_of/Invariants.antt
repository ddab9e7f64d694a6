use Rattle.std.proofs.Common.{◌-◌, ◌≤◌, length}
use Rattle.tdl_tape_speed.proofs.callers_of.Given as goal

abbrev pub invariant-loop-callers : goal.invariant-loop-callers
invariant-loop-callers l = length l.callers.items ≤ l.asked.threads

abbrev pub decreases-loop-callers : goal.decreases-loop-callers
decreases-loop-callers l = l.asked.threads - length l.callers.items
