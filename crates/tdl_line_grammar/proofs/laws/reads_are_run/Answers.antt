use Rattle.tdl_line_grammar.proofs.WholeTexts.{reads_run}
use Rattle.tdl_line_grammar.proofs.laws.reads_are_run.Goals as goal

pub returns : goal.returns
returns c = reads_run
