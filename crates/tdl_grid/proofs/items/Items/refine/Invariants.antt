use Rattle.std.proofs.Common.{◌≡◌}
use Rattle.tdl_meaning.proofs.Moves.{moved_between}
use Rattle.tdl_grid.specs.Item.{finer_item}
use Rattle.tdl_grid.proofs.items.Items.refine.Given as goal

abbrev pub invariant-loop-i : goal.invariant-loop-i
invariant-loop-i l = l.self ≡ moved_between (finer_item l.fn.times) l.from l.i l.fn.self
