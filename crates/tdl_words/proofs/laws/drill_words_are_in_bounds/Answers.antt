use Rattle.tdl_words.proofs.Bounds.{drill_in_bounds}
use Rattle.tdl_words.proofs.laws.drill_words_are_in_bounds.Goals as goal

pub returns : goal.returns
returns c = drill_in_bounds
