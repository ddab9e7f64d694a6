use Rattle.tdl_core.proofs.Boundaries.{boundary_least}
use Rattle.tdl_core.proofs.machine.boundary.Goals as goal

pub returns-clause-least : goal.returns-clause-least
returns-clause-least c =
    λ cycle d h. rw c.div_ceil.ensures (boundary_least c.args.frontier c.args.every cycle c.requires.every_from d h)
