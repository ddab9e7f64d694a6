use Rattle.tdl_fraction.proofs.UnitCounts.{multiple_test}
use Rattle.tdl_fraction.proofs.units.is_whole_count.Goals as goal

pub returns : goal.returns
returns c = multiple_test 46080 c.denominator.result c.args.time c.denominator.ensures.value
