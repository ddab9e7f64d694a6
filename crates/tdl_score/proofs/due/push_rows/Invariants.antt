use Rattle.std.proofs.Common.{take}
use Rattle.tdl_score.specs.inside.Dues.{Gained}
use Rattle.tdl_score.proofs.due.push_rows.Given as goal

abbrev pub invariant-loop-row : goal.invariant-loop-row
invariant-loop-row l = Gained l.tempo l.fn.due l.due (take l.row-index l.rows)
