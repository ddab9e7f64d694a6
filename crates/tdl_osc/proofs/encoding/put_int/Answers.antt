use Rattle.std.proofs.Common.{rules}
use Rattle.tdl_osc.specs.Encoding.{int32_bytes}
use Rattle.tdl_osc.proofs.encoding.put_int.Goals as goal

pub returns : goal.returns
unfolding int32_bytes
returns c = search rules
