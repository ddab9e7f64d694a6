use Rattle.tdl_meaning.proofs.Cycles.{shared, rising}
use Rattle.tdl_meaning.proofs.cycles_share_time_with_the_arc.Goals as goal

pub returns : goal.returns
returns c = record { shared = shared; rising = λ a. rising _ _ }
