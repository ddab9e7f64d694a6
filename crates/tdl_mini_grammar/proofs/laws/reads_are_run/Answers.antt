use Rattle.tdl_mini_grammar.proofs.Exact.{exact}
use Rattle.tdl_mini_grammar.proofs.laws.reads_are_run.Goals as goal

pub returns : goal.returns
returns c = exact
