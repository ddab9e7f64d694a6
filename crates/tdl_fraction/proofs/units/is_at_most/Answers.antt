use Rattle.tdl_fraction.proofs.UnitCounts.{at_most_test}
use Rattle.tdl_fraction.proofs.units.is_at_most.Goals as goal

pub returns : goal.returns
returns c = at_most_test c.args.high c.args.low c.is_less.result c.is_less.ensures.value
