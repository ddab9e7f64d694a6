-- The machine that tests finds the first fault, by lemmas on its runs.
use Rattle.tdl_mini_grammar.proofs.FirstFaults.{fault_found, text_found}
use Rattle.tdl_mini_grammar.proofs.laws.faults_are_found.Goals as goal

pub returns : goal.returns
returns c = record {
  found = λ kind front next fault stop others. fault_found kind front next others stop.0 fault stop.1 stop.2;
  text = text_found;
}
