use Rattle.tdl_mini_grammar.proofs.Closing.{closes, closes_at_fault}
use Rattle.tdl_mini_grammar.proofs.laws.open_texts_can_be_closed.Goals as goal

pub returns : goal.returns
returns c = record { closes = closes; at_fault = closes_at_fault }
