-- A span without ends is one of no value.
use Rattle.tdl_mini_tree.proofs.SpanLemmas.{empty_span}
use Rattle.tdl_mini_tree.proofs.extremes.Extremes.is_empty.Goals as goal

pub returns : goal.returns
returns c = λ values is. empty_span c.args.self.ends c.is_none.result values c.is_none.ensures is
