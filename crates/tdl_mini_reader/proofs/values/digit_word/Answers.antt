use Rattle.tdl_mini_reader.proofs.WordLemmas.{digits_matched}
use Rattle.tdl_mini_reader.proofs.values.digit_word.Goals as goal

pub returns : goal.returns
returns c = digits_matched c.args.text.now c.of.result c.requires.plain c.requires.filled c.of.ensures.exactly c.of.ensures.same_bytes
