-- Tokens are cut in one way and read in one way, so a text is.
use Rattle.tdl_mini_grammar.proofs.TextsRead.{IsMini-unique, IsMini-no_fault, Refuses-unique}
use Rattle.tdl_mini_grammar.proofs.laws.texts_are_read_in_one_way.Goals as goal

pub returns : goal.returns
returns c = record { one_tree = IsMini-unique; not_both = IsMini-no_fault; one_fault = Refuses-unique }
