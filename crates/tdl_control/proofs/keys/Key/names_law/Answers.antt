use Rattle.tdl_control.proofs.KeyLemmas.{key_from_name, names_ordered}
use Rattle.tdl_control.proofs.keys.Key.names_law.Goals as goal

pub returns : goal.returns
returns c = record { distinct = key_from_name c.args.self c.args.other; ordered = names_ordered c.args.self c.args.other }
