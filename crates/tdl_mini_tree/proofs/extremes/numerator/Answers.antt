-- A number without a value is zero.
use Rattle.tdl_mini_tree.proofs.SpanLemmas.{no_value}
use Rattle.tdl_mini_tree.proofs.extremes.numerator.Goals as goal

pub returns-in-None : goal.returns-in-None
returns-in-None c = no_value c.args.number _ c.value.ensures.found c.in-None.is
