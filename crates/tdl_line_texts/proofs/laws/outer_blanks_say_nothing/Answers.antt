use Rattle.tdl_line_texts.proofs.OuterBlanks.{outer_blanks}
use Rattle.tdl_line_texts.proofs.laws.outer_blanks_say_nothing.Goals as goal

pub returns : goal.returns
returns c = outer_blanks
