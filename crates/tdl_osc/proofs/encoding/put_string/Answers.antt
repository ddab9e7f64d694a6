use Rattle.std.proofs.Common.{rules, append_assoc}
use Rattle.tdl_osc.specs.Encoding.{osc_string}
use Rattle.tdl_osc.proofs.encoding.put_string.Goals as goal

pub returns : goal.returns
unfolding osc_string
returns c = search (rules, append_assoc)
