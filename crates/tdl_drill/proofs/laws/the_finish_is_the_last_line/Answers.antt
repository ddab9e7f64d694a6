use Rattle.tdl_drill.proofs.LastLine.{last_alone}
use Rattle.tdl_drill.proofs.laws.the_finish_is_the_last_line.Goals as goal

pub returns : goal.returns
returns c = λ start count before rest line is. last_alone start 0 count before rest line is
