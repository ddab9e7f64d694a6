-- A fraction is there exactly where its denominator is not zero.
use Rattle.tdl_mini_tree.proofs.SpanLemmas.{in_range_where}
use Rattle.tdl_mini_tree.proofs.numbers.quotient.Goals as goal

pub returns-clause-found : goal.returns-clause-found
returns-clause-found c = in_range_where c.args.above c.args.below _ c.ranges.above c.requires.fine c.requires.near c.of.ensures.found
