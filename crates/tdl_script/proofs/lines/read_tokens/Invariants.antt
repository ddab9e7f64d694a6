use Rattle.tdl_script.proofs.TokenLoop.{IsReadUpTo}
use Rattle.tdl_script.proofs.lines.read_tokens.Given as goal

abbrev pub invariant-loop-i : goal.invariant-loop-i
invariant-loop-i l = IsReadUpTo l.fn.goal l.text l.tokens l.i l.reader l.stage
