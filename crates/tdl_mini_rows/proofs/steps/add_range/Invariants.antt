use lib.Signed.{le_z}
use Rattle.tdl_mini_tree.specs.Values.{integer_of, counted}
use Rattle.tdl_mini_rows.specs.Lowered.{range_built}
use Rattle.tdl_mini_rows.specs.inside.Views.{LowersSteps, play_of, steps_at}
use Rattle.tdl_mini_rows.proofs.steps.add_range.Given as goal

abbrev pub invariant-loop-i : goal.invariant-loop-i
invariant-loop-i l =
    LowersSteps l.initial.table l.table
    (range_built (play_of l.play) (steps_at l.initial.table l.initial.steps.items)
    (counted (le_z (integer_of l.first) (integer_of l.last)) l.i (integer_of l.first))) l.steps.items
