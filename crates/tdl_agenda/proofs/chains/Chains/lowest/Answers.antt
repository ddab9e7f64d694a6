use Rattle.std.proofs.Common.{get_or, refl, arith}
use Rattle.std.proofs.Common.{None as NoneOf}
use Rattle.tdl_agenda.proofs.Least.{scanned_more}
use Rattle.tdl_agenda.proofs.chains.Chains.lowest.Goals as goal

pub loop-head-preserved : goal.loop-head-preserved
loop-head-preserved c =
    let heads = c.args.heads.now in
    let at = c.loop-head.head-index in
    let lower = c.lower-lowest.ensures in
    scanned_more c.args.self.now.slots.items heads at c.loop-head.lowest (get_or heads at NoneOf) c.lower-lowest.result c.requires (omega arith) refl
    c.loop-head.invariant lower.either lower.first lower.second
