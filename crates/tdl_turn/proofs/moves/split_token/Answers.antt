use Rattle.std.proofs.Common.{rules}
use Rattle.tdl_turn.proofs.Meetings.{splits}
use Rattle.tdl_turn.proofs.moves.split_token.Goals as goal

pub split_seat-requires : goal.split_seat-requires
split_seat-requires g c = (search rules, search rules, splits _ _ _ _ _ _ c.requires.token)
