-- Tokens are cut in one way and read in one way, so a line is.
use Rattle.tdl_line_texts.proofs.LinesRead.{IsWhole-unique, IsWhole-no_fault, RefusesWhole-unique}
use Rattle.tdl_line_texts.proofs.Trimming.{trimmed_once}
use Rattle.tdl_line_texts.proofs.laws.lines_are_read_in_one_way.Goals as goal

pub returns : goal.returns
returns c = record { one_tree = IsWhole-unique; not_both = IsWhole-no_fault; one_fault = RefusesWhole-unique; one_text = trimmed_once }
