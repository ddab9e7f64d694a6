use Rattle.std.proofs.Common.{◌≡◌, drop}
use Rattle.tdl_control.specs.Combine.{combine}
use Rattle.tdl_control.proofs.maps.Map.joined.Given as goal

-- the right map's entries from here on are joined to the left map
abbrev pub invariant-loop-i : goal.invariant-loop-i
invariant-loop-i l = l.self ≡ combine l.op l.fn.self (drop l.i l.right)
