use Rattle.tdl_compile.proofs.OtherKinds.{gate_stands}
use Rattle.tdl_compile.proofs.sizes.RowBounds.gate.Goals as goal

pub returns : goal.returns
returns c = λ from to inside e s. gate_stands from to inside e _ (c.rev.ensures e s)
