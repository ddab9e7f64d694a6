use Rattle.tdl_words.proofs.UsualTempo.{IsCps-usual}
use Rattle.tdl_words.proofs.modes.cps_of.Goals as goal

pub returns-in-Ok-Query-clause-allowed : goal.returns-in-Ok-Query-clause-allowed
returns-in-Ok-Query-clause-allowed c = rw c.usual_cps.ensures IsCps-usual
