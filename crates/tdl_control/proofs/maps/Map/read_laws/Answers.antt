use Rattle.tdl_control.proofs.OneFault.{read_laws}
use Rattle.tdl_control.proofs.maps.Map.read_laws.Goals as goal

pub returns : goal.returns
returns c = read_laws
