use Rattle.tdl_meaning.proofs.Kept.{KeepsFrom}
use Rattle.tdl_grid.specs.Item.{passes_in}
use Rattle.tdl_grid.proofs.items.Items.gate.Given as goal

abbrev pub invariant-loop-i : goal.invariant-loop-i
invariant-loop-i l = KeepsFrom (passes_in l.unit l.window.from l.window.to l.window.inside) l.from l.fn.self l.self l.kept l.i
