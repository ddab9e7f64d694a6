use Rattle.tdl_score.proofs.ChangeLists.{changes_once, legal_has, playable}
use Rattle.tdl_score.proofs.LastPlays.{sends_once}
use Rattle.tdl_score.proofs.laws.histories_have_one_list_of_changes.Goals as goal

pub returns-clause-one : goal.returns-clause-one
returns-clause-one g c = changes_once g.R.Reader.reads c.reading_law.ensures

pub returns-clause-some : goal.returns-clause-some
returns-clause-some g c = legal_has g.R.Reader.reads

pub returns-clause-playable : goal.returns-clause-playable
returns-clause-playable g c = playable g.R.Reader.reads c.reading_law.ensures

pub returns-clause-sends : goal.returns-clause-sends
returns-clause-sends g c = sends_once g.R.Reader.reads c.reading_law.ensures
