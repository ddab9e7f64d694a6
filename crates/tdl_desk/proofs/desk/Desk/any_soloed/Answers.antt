use Rattle.std.proofs.Common.{arith, rules}
use Rattle.tdl_desk.specs.Desk.{desk}
use Rattle.tdl_desk.proofs.SomeOrbit.{some_orbit}
use Rattle.tdl_desk.proofs.desk.Desk.any_soloed.Goals as goal

pub returns-then-soloed : goal.returns-then-soloed
returns-then-soloed g c = λ changes stands. some_orbit (desk changes c.args.cycle).soloed c.loop-orbit.orbit (search (arith, rules)) (search rules)
