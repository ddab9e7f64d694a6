use Rattle.tdl_mini_grammar.proofs.Sound.{sound}
use Rattle.tdl_mini_grammar.proofs.laws.what_is_read_is_spelled.Goals as goal

pub returns : goal.returns
returns c = record { sound = sound }
