use Rattle.std.proofs.Common.{◌≡◌, ◌++◌}
use Rattle.std.specs.List.{flat_map}
use Rattle.tdl_score.specs.Score.{row_of}
use Rattle.tdl_score.proofs.onsets.push_events.Given as goal

abbrev pub invariant-loop-event : goal.invariant-loop-event
invariant-loop-event l = l.rows.items ≡ l.fn.rows.items ++ flat_map (row_of l.orbit) l.yielded
