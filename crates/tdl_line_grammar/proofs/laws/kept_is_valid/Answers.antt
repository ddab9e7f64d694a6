use Rattle.tdl_line_grammar.proofs.ValidTexts.{valid_expr}
use Rattle.tdl_line_grammar.proofs.laws.kept_is_valid.Goals as goal

pub returns : goal.returns
returns c = valid_expr
