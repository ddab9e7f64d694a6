use Rattle.tdl_mini_grammar.proofs.Pieced.{next_piece}
use Rattle.tdl_mini_grammar.proofs.laws.next_tokens_are_pieces.Goals as goal

pub returns : goal.returns
returns c = next_piece
