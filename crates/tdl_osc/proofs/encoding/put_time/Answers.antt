use Rattle.std.proofs.Common.{rules}
use Rattle.tdl_osc.specs.Encoding.{time_bytes}
use Rattle.tdl_osc.proofs.encoding.put_time.Goals as goal

pub returns : goal.returns
unfolding time_bytes
returns c = search rules
