use Rattle.std.proofs.Common.{◌≡◌, ◌++◌, drop, map}
use Rattle.tdl_osc.specs.inside.Said.{said_arguments, AreFreeArguments}
use Rattle.tdl_osc.specs.Values.{osc_argument}
use Rattle.tdl_osc.proofs.reading.values.arguments_of.Given as goal

-- what is made and what is left say what all bytes say
abbrev pub invariant-loop-tag : goal.invariant-loop-tag
invariant-loop-tag l =
    record {
      said : map osc_argument l.args ++ said_arguments (drop l.tag-index l.tags) l.rest ≡ said_arguments l.tags l.bytes;
      free : AreFreeArguments (drop l.tag-index l.tags) l.rest;
    }
