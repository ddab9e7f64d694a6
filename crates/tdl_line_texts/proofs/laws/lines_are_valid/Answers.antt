use Rattle.tdl_line_texts.proofs.KeptTexts.{valid_command}
use Rattle.tdl_line_texts.proofs.laws.lines_are_valid.Goals as goal

pub returns : goal.returns
returns c = valid_command
