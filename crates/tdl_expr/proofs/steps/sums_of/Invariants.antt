use Rattle.std.proofs.Common.{◌≡◌, ◌++◌, drop}
use Rattle.tdl_expr.specs.Passed.{ends_after}
use Rattle.tdl_expr.proofs.steps.sums_of.Given as goal

-- with the ends of the steps that are left, these are those of all
abbrev pub invariant-loop-step : goal.invariant-loop-step
invariant-loop-step l = l.sums.items ++ ends_after l.sum (drop l.step-index l.steps) ≡ ends_after 0 l.steps
