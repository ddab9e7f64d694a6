use Rattle.tdl_control.proofs.CombineLemmas.{combine_laws}
use Rattle.tdl_control.proofs.maps.Map.combine_laws.Goals as goal

pub returns : goal.returns
returns c = combine_laws
