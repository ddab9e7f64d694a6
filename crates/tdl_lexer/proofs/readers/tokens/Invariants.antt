use Rattle.std.proofs.Common.{◌-◌, length}
use Rattle.tdl_lexer.specs.Tokens.{language}
use Rattle.tdl_lexer.proofs.TokenSteps.{ReadUpTo}
use Rattle.tdl_lexer.proofs.readers.tokens.Given as goal

abbrev pub invariant-loop-at : goal.invariant-loop-at
invariant-loop-at l = ReadUpTo (language l.mode) l.text l.tokens l.at

abbrev pub decreases-loop-at : goal.decreases-loop-at
decreases-loop-at l = length l.text - l.at
