use Rattle.std.proofs.Common.{◌≡◌}
use Rattle.tdl_meaning.proofs.Moves.{moved_between}
use Rattle.tdl_meaning.specs.Pattern.{turned_event}
use Rattle.tdl_meaning.proofs.turns.turn.Given as goal

abbrev pub invariant-loop-i : goal.invariant-loop-i
invariant-loop-i l = l.events ≡ moved_between (turned_event l.cycle) l.from l.i l.fn.events
