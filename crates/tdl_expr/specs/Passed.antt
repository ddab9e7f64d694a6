-- How much of a sequence has passed.
--     weight_sum     the sum of the weights of steps
--     HasPassed      so many steps have ended where so much weight has passed
--     ends_after     where each step ends, after weights that were before, in what 64 bits hold
--     AreEnds        these are where each step ends; nothing is kept where each weight is 1
use Rattle.std.specs.Prelude.{ℕ, suc, ◌≡◌, ◌+◌, ◌-◌, ◌^◌, ◌<◌, ◌≤◌, List, [], ◌∷◌, length, take, sum_by, min}
use Rattle.std.specs.List.{All}
use Rattle.tdl_expr.specs.declared.steps.Ends.{Ends}
use Rattle.tdl_expr.specs.declared.steps.Ends.TheVariants.{Even, At}
use Rattle.tdl_expr.specs.declared.steps.Step.{Step}

abbrev pub weight_sum : List Step → ℕ
weight_sum steps = sum_by (λ s. s.weight) steps

-- those have ended, and the next one has not
pub record HasPassed (steps : List Step) (passed count : ℕ) : Type 0 where
  pub within : count ≤ length steps
  pub ended : weight_sum (take count steps) ≤ passed
  pub next : count < length steps → passed < weight_sum (take (suc count) steps)

abbrev pub ends_after : ℕ → List Step → List ℕ
ends_after before [] = []
ends_after before (s ∷ steps) = min (before + s.weight) (2 ^ 64 - 1) ∷ ends_after (min (before + s.weight) (2 ^ 64 - 1)) steps

abbrev pub AreEnds : Ends → List Step → Type 0
AreEnds Even steps = All (λ s. s.weight ≡ 1) steps
AreEnds (At ends) steps = ends.items ≡ ends_after 0 steps
