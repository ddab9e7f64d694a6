use Rattle.tdl_compile.proofs.Grids.{unit_small}
use Rattle.tdl_compile.proofs.programs.Program.unit.Goals as goal

pub returns-clause-small : goal.returns-clause-small
returns-clause-small c = unit_small _ c.self.inside.unit c.self.invariant.4 c.self.invariant.1.not_too_fine
