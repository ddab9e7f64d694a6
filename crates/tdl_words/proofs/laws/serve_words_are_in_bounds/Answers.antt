use Rattle.tdl_words.proofs.Bounds.{serve_in_bounds}
use Rattle.tdl_words.proofs.laws.serve_words_are_in_bounds.Goals as goal

pub returns : goal.returns
returns c = serve_in_bounds
