use Rattle.std.proofs.Common.{◌≡◌, ◌+◌, ◌-◌, drop}
use Rattle.tdl_osc.specs.BundleFault.{padding_fault}
use Rattle.tdl_osc.proofs.reading.strings.check_padding.Given as goal

-- what is left says what all zeros say
abbrev pub invariant-loop-i : goal.invariant-loop-i
invariant-loop-i l = padding_fault l.from (l.offset + l.i) (l.more - l.i) (drop l.i l.bytes) ≡ padding_fault l.from l.offset l.more l.bytes
