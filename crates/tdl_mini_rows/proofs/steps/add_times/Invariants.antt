use Rattle.std.proofs.Common.{◌≡◌, ◌++◌, replicate}
use Rattle.tdl_mini_rows.proofs.steps.add_times.Given as goal

abbrev pub invariant-loop : goal.invariant-loop
invariant-loop l = l.steps.items ≡ l.initial.steps.items ++ replicate l.counter l.step
