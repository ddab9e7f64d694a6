use Rattle.std.proofs.Common.{◌≡◌, cond, map, take}
use Rattle.tdl_rows.proofs.rhythms.hit_rows.Given as goal

abbrev pub invariant-loop-i : goal.invariant-loop-i
invariant-loop-i l = l.ids.items ≡ map (λ hit. cond hit l.hit_row l.rest) (take l.i l.bits)
