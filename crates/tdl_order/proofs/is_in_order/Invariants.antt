use Rattle.std.specs.List.Sorted.{IsSortedWithin}
use Rattle.tdl_order.proofs.Rising.{is_earlier}
use Rattle.tdl_order.proofs.is_in_order.Given as goal

abbrev pub invariant-loop-i : goal.invariant-loop-i
invariant-loop-i g l = IsSortedWithin (is_earlier g.K.TimeOf.time_of) l.items 0 l.i
