use Rattle.std.proofs.Common.{take}
use Rattle.tdl_rows.specs.Built.{each}
use Rattle.tdl_mini_rows.specs.Lowered.{paced}
use Rattle.tdl_rows.specs.inside.Views.{LowersIds}
use Rattle.tdl_mini_rows.specs.inside.Views.{step_at, rows_of}
use Rattle.tdl_mini_rows.proofs.paces.paced_stack.Given as goal

abbrev pub invariant-loop-sequence : goal.invariant-loop-sequence
invariant-loop-sequence l =
    LowersIds l.initial.table l.table (each (λ s. paced l.rate (step_at l.initial.table s)) (take l.sequence-index l.sequences)) (rows_of l.stacked.items)
