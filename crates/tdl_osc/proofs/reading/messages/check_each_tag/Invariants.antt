use Rattle.std.proofs.Common.{◌≡◌, ◌+◌, drop}
use Rattle.tdl_osc.specs.BundleFault.{tag_fault}
use Rattle.tdl_osc.proofs.reading.messages.check_each_tag.Given as goal

-- what is left says what all bytes say
abbrev pub invariant-loop-i : goal.invariant-loop-i
invariant-loop-i l = tag_fault (l.from + l.i) (drop l.i l.bytes) ≡ tag_fault l.from l.bytes
