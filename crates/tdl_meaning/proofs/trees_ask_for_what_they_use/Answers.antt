use Rattle.tdl_meaning.proofs.Enough.{enough}
use Rattle.tdl_meaning.proofs.trees_ask_for_what_they_use.Goals as goal

pub returns : goal.returns
returns c = enough
