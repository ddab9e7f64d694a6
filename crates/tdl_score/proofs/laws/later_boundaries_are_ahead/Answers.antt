use Rattle.tdl_score.proofs.Ahead.{ahead, all_ahead}
use Rattle.tdl_score.proofs.laws.later_boundaries_are_ahead.Goals as goal

pub returns-clause-next : goal.returns-clause-next
returns-clause-next g c = λ entries e may. ahead g.R.Reader.reads c.reading_law.ensures entries e.who e.deed may.deed

pub returns-clause-all : goal.returns-clause-all
returns-clause-all g c = all_ahead g.R.Reader.reads c.reading_law.ensures
