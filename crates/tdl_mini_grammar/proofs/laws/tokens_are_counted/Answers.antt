use Rattle.tdl_mini_machine.proofs.Counts.{run-read, run-depth, run-untested, taken-wrong, failing}
use Rattle.tdl_mini_grammar.proofs.laws.tokens_are_counted.Goals as goal

pub returns : goal.returns
returns c = record { read = run-read; depth = run-depth; untested = run-untested; refused = taken-wrong; failing = failing }
