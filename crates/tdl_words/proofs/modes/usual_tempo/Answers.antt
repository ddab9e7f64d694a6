use Rattle.tdl_words.proofs.UsualTempo.{IsCps-usual}
use Rattle.tdl_words.proofs.modes.usual_tempo.Goals as goal

pub unwrap-requires : goal.unwrap-requires
unwrap-requires c = c.of.ensures.found.1 (rw c.usual_cps.ensures IsCps-usual)
