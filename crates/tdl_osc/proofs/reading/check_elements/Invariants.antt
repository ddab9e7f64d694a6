use Rattle.std.proofs.Common.{◌≡◌, ◌+◌, length}
use Rattle.tdl_osc.specs.BundleFault.{elements_fault}
use Rattle.tdl_osc.proofs.reading.check_elements.Given as goal

-- what is left says what all messages say
abbrev pub invariant-loop-rest : goal.invariant-loop-rest
invariant-loop-rest l =
    record {
      same : elements_fault l.offset 0 l.rest ≡ elements_fault l.from 0 l.bytes;
      fits : l.offset + length l.rest ≡ l.from + length l.bytes;
    }

abbrev pub decreases-loop-rest : goal.decreases-loop-rest
decreases-loop-rest l = length l.rest
