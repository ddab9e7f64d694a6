use Rattle.std.proofs.Common.{◌≡◌, take}
use Rattle.tdl_mini_rows.specs.inside.Views.{rows_of}
use Rattle.tdl_mini_rows.proofs.joins.ids_of.Given as goal

abbrev pub invariant-loop-step : goal.invariant-loop-step
invariant-loop-step l = l.ids.items ≡ rows_of (take l.step-index l.steps)
