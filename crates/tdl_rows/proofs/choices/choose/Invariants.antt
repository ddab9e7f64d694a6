use Rattle.std.proofs.Common.{take}
use Rattle.tdl_rows.specs.Built.{each}
use Rattle.tdl_rows.specs.inside.Views.{LowersIds}
use Rattle.tdl_rows.proofs.choices.choose.Given as goal

abbrev pub invariant-loop-i : goal.invariant-loop-i
invariant-loop-i g l = LowersIds l.initial.table l.table (each (g.M.ByNumber.made l.initial.table l.made) (take l.i l.values)) l.children
