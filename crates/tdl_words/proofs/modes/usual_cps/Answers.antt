use Rattle.std.proofs.Common.{arith}
use Rattle.tdl_words.proofs.UsualTempo.{usual_cps_in_range}
use Rattle.tdl_words.proofs.modes.usual_cps.Goals as goal

pub unwrap-requires : goal.unwrap-requires
unwrap-requires c = c.of.ensures.found.1 (omega arith, usual_cps_in_range)
