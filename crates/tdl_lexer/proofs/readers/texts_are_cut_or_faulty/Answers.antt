use Rattle.tdl_lexer.proofs.ModeCuts.{is_decided}
use Rattle.tdl_lexer.proofs.readers.texts_are_cut_or_faulty.Goals as goal

pub returns : goal.returns
returns c = is_decided
