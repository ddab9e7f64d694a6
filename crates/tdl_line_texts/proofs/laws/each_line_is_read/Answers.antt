use Rattle.tdl_line_texts.proofs.LinesRead.{each_whole}
use Rattle.tdl_line_texts.proofs.laws.each_line_is_read.Goals as goal

pub returns : goal.returns
returns c = each_whole
