use Rattle.std.proofs.Common.{◌≡◌, take}
use Rattle.tdl_serve.specs.inside.Numbered.{numbered}
use Rattle.tdl_serve.proofs.endings.endings_of.Given as goal

abbrev pub invariant-loop-i : goal.invariant-loop-i
invariant-loop-i l = l.endings ≡ numbered 1 (take l.i l.ends)
