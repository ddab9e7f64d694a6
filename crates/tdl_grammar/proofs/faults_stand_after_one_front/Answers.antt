use Rattle.tdl_grammar.specs.Decidable.{grammar_of}
use Rattle.tdl_grammar.proofs.OneFront.{text_no_fault, one_front}
use Rattle.tdl_grammar.proofs.faults_stand_after_one_front.Goals as goal

pub returns : goal.returns
returns g c = record { not_both = λ r. text_no_fault (grammar_of r); one_front = λ r. one_front (grammar_of r) }
