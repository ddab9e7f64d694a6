use Rattle.tdl_lexer.proofs.ModeCuts.{IsCut-unique, IsCut-no_fault, IsFaultAt-unique}
use Rattle.tdl_lexer.proofs.readers.texts_are_cut_in_one_way.Goals as goal

pub returns : goal.returns
returns c = record { one_cut = IsCut-unique; not_both = IsCut-no_fault; one_fault = IsFaultAt-unique }
