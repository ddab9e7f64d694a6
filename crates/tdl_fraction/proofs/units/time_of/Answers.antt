use Rattle.std.proofs.Common.{arith}
use Rattle.std.proofs.lemmas.Int.{to_z_pos}
use Rattle.std.specs.Int.{w128}
use Rattle.tdl_fraction.proofs.UnitTimes.{units_in_range}
use Rattle.tdl_fraction.proofs.units.time_of.Goals as goal

pub unwrap-requires : goal.unwrap-requires
unwrap-requires c = c.of.ensures.found.1 (omega arith, rw (to_z_pos w128 c.args.units (omega arith)) (units_in_range c.args.units c.requires))
