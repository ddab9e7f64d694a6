use Rattle.tdl_control.proofs.ReadLemmas.{read_only}
use Rattle.tdl_control.proofs.maps.Map.read.Goals as goal

-- prints tell maps apart, and no map's print has a fault
pub returns-clause-only : goal.returns-clause-only
returns-clause-only c = read_only c.args.text.now c.read_items.result c.read_items.ensures.text c.read_items.ensures.valid c.read_items.ensures.refused
