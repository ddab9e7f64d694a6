use Rattle.tdl_perform.proofs.ServedPorts.{port_on}
use Rattle.tdl_perform.proofs.laws.ports_stay.Goals as goal

pub returns : goal.returns
returns c = port_on
