use Rattle.std.proofs.Common.{◌≡◌, ◌+◌, length, drop}
use Rattle.tdl_osc.specs.BundleFault.{arguments_fault}
use Rattle.tdl_osc.proofs.reading.messages.check_arguments.Given as goal

-- what is left says what all arguments say
abbrev pub invariant-loop-tag : goal.invariant-loop-tag
invariant-loop-tag l =
    record {
      same : arguments_fault l.first l.offset (drop l.tag-index l.tags) l.rest ≡ arguments_fault l.first l.from l.tags l.bytes;
      fits : l.offset + length l.rest ≡ l.from + length l.bytes;
    }
