use Rattle.std.proofs.Common.{◌≡◌, ◌++◌, length, map}
use Rattle.tdl_osc.specs.inside.Said.{said_messages, AreFreeElements}
use Rattle.tdl_osc.specs.Values.{osc_message}
use Rattle.tdl_osc.proofs.reading.values.messages_of.Given as goal

-- what is made and what is left say what all bytes say
abbrev pub invariant-loop-rest : goal.invariant-loop-rest
invariant-loop-rest l =
    record {
      said : map osc_message l.messages ++ said_messages 0 l.rest ≡ said_messages 0 l.bytes;
      free : AreFreeElements l.rest;
    }

abbrev pub decreases-loop-rest : goal.decreases-loop-rest
decreases-loop-rest l = length l.rest
