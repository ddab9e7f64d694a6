use Rattle.tdl_mini_reader.proofs.WordLemmas.{letters_matched}
use Rattle.tdl_mini_reader.proofs.values.plain_word.Goals as goal

pub returns : goal.returns
returns c = letters_matched c.args.text.now c.of.result c.requires c.of.ensures.exactly c.of.ensures.same_bytes
