use Rattle.tdl_line_grammar.proofs.LineMachine.{text_after}
use Rattle.tdl_line_grammar.proofs.laws.fronts_go_on.Goals as goal

pub returns : goal.returns
returns c = text_after
