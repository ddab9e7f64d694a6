use Rattle.tdl_mini_grammar.proofs.TextsRead.{each_read}
use Rattle.tdl_mini_grammar.proofs.laws.each_text_is_read.Goals as goal

pub returns : goal.returns
returns c = each_read
