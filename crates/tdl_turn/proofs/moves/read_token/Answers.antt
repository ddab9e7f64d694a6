use Rattle.std.proofs.Common.{rules}
use Rattle.tdl_turn.proofs.SeatSteps.{reads}
use Rattle.tdl_turn.proofs.moves.read_token.Goals as goal

pub load-requires : goal.load-requires
load-requires g c = (search rules, search rules, reads _ _ _ _ _ _ _)
