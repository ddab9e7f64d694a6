-- One first fault, at one of the tokens, and one tree.
use Rattle.tdl_mini_grammar.proofs.TestPlaces.{fault_within}
use Rattle.tdl_mini_grammar.proofs.FirstFaults.{one_first_fault, text_without_fault, one_reading}
use Rattle.tdl_mini_grammar.proofs.laws.faults_are_one.Goals as goal

pub returns : goal.returns
returns c = record { one_fault = one_first_fault; not_both = text_without_fault; one_tree = one_reading; within = fault_within }
