use Rattle.tdl_meaning.proofs.Repeating.{over_later}
use Rattle.tdl_meaning.proofs.patterns_repeat.Goals as goal

pub returns : goal.returns
returns c = over_later
