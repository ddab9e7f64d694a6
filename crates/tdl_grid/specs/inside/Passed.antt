-- What of the weights of a sequence has passed where a span of a cycle begins and ends.
--     ArePassedCounts   so many have ended by its start, and so many have begun before its end
use Rattle.std.specs.Prelude.{ℕ, ℤ}
use Rattle.tdl_fraction.specs.Arc.{Arc}
use Rattle.tdl_visits.specs.inside.Weights.{HavePassed}
use Rattle.tdl_grid.specs.declared.passed.PassedSteps.{PassedSteps}

abbrev pub ArePassedCounts : ℤ → ℕ → Arc → PassedSteps → Type 0
ArePassedCounts c W a passed = HavePassed c W a passed.ended passed.begun
