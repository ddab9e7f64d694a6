use Rattle.tdl_score.proofs.CycleRows.{rows_known, none_early}
use Rattle.tdl_score.proofs.laws.rows_are_of_their_cycle.Goals as goal

pub returns-clause-each : goal.returns-clause-each
returns-clause-each c =
    let laws = c.times_of_trees_are_bounded.ensures in
    λ changes playable. rows_known laws.proper laws.in_arc changes playable

pub returns-clause-none_early : goal.returns-clause-none_early
returns-clause-none_early c =
    let laws = c.times_of_trees_are_bounded.ensures in
    λ changes playable. none_early laws.proper laws.in_arc changes playable
