use Rattle.std.proofs.Common.{◌≡◌, take}
use Rattle.tdl_expr.specs.Weights.{common_denominator}
use Rattle.tdl_expr.proofs.weights.common_denominator.Given as goal

abbrev pub invariant-loop-weight : goal.invariant-loop-weight
invariant-loop-weight l = l.common ≡ common_denominator (take l.weight-index l.weights)
