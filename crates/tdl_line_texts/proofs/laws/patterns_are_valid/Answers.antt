use Rattle.tdl_line_texts.proofs.KeptTexts.{valid_alone}
use Rattle.tdl_line_texts.proofs.laws.patterns_are_valid.Goals as goal

pub returns : goal.returns
returns c = valid_alone
