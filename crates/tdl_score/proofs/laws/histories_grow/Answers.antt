use Rattle.tdl_score.proofs.Growing.{growth}
use Rattle.tdl_score.proofs.laws.histories_grow.Goals as goal

pub returns : goal.returns
returns g c = growth g.R.Reader.reads c.reading_law.ensures c.times_of_trees_are_bounded.ensures.proper c.times_of_trees_are_bounded.ensures.in_arc
