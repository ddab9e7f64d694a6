use Rattle.tdl_meaning.specs.Kinds.{passes}
use Rattle.tdl_meaning.proofs.Kept.{KeepsFrom}
use Rattle.tdl_meaning.proofs.windows.Window.filter.Given as goal

abbrev pub invariant-loop-i : goal.invariant-loop-i
invariant-loop-i l = KeepsFrom (passes l.self.from l.self.to l.self.inside) l.from l.fn.events l.events l.kept l.i
