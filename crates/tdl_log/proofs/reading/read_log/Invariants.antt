use Rattle.std.proofs.Common.{◌≡◌, ◌-◌, true, false, length}
use Rattle.tdl_log.specs.Log.{log_of}
use Rattle.tdl_log.specs.LogText.{log_lines}
use Rattle.tdl_log.specs.inside.Walks.{Holds, IsReadTo, begun_lines}
use Rattle.tdl_log.proofs.reading.read_log.Given as goal

abbrev pub invariant-loop-ended : goal.invariant-loop-ended
invariant-loop-ended g l = record {
  holds : Holds g.R.Reader.reads l.walk;
  going : l.ended ≡ false → IsReadTo (begun_lines (log_of l.walk.sheet)) l.text l.walk.at;
  over : l.ended ≡ true → IsReadTo (log_lines (log_of l.walk.sheet)) l.text l.walk.at;
}

abbrev pub decreases-loop-ended : goal.decreases-loop-ended
decreases-loop-ended g l = length l.text - l.walk.at
