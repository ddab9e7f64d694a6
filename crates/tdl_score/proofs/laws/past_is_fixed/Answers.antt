use Rattle.tdl_score.proofs.Past.{past_fixed}
use Rattle.tdl_score.proofs.laws.past_is_fixed.Goals as goal

pub returns : goal.returns
returns g c = past_fixed g.R.Reader.reads c.reading_law.ensures
