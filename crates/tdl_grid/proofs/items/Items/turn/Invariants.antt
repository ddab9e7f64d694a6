use Rattle.std.proofs.Common.{◌≡◌}
use Rattle.tdl_meaning.proofs.Moves.{moved_between}
use Rattle.tdl_grid.specs.Item.{turned_item}
use Rattle.tdl_grid.proofs.items.Items.turn.Given as goal

abbrev pub invariant-loop-i : goal.invariant-loop-i
invariant-loop-i l = l.self ≡ moved_between (turned_item l.fn.round) l.from l.i l.fn.self
