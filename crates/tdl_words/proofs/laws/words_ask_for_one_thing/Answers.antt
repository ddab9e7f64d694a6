use Rattle.tdl_words.proofs.Uniqueness.{asks_for_one}
use Rattle.tdl_words.proofs.laws.words_ask_for_one_thing.Goals as goal

pub returns : goal.returns
returns c = asks_for_one
