use Rattle.tdl_mini.proofs.TokenLoop.{IsReadUpTo}
use Rattle.tdl_mini.proofs.texts.read_tokens.Given as goal

abbrev pub invariant-loop-i : goal.invariant-loop-i
invariant-loop-i l = IsReadUpTo l.fn.kind l.text l.tokens l.i l.reader l.stage
