use Rattle.tdl_line_grammar.proofs.Sound.{sound}
use Rattle.tdl_line_grammar.proofs.laws.ends_are_read.Goals as goal

pub returns : goal.returns
returns c = sound
