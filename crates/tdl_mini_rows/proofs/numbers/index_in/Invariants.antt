use Rattle.std.proofs.Common.{◌≡◌, ◌+◌, drop}
use Rattle.tdl_mini_rows.specs.Leaves.{index_in}
use Rattle.tdl_mini_rows.proofs.numbers.index_in.Given as goal

abbrev pub invariant-loop-i : goal.invariant-loop-i
invariant-loop-i l = l.i + index_in (drop l.i l.numbers) l.number ≡ index_in l.numbers l.number
