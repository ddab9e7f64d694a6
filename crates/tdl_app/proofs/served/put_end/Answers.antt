use Rattle.std.proofs.Common.{refl}
use Rattle.tdl_app.proofs.ServedRuns.{end_part, end_whole}
use Rattle.tdl_app.proofs.served.put_end.Goals as goal

pub returns-in-Ok-put-clause-ended : goal.returns-in-Ok-put-clause-ended
returns-in-Ok-put-clause-ended g c = end_whole c.in-Ok.line c.in-Ok.ensures (rw c.bytes.ensures at c.in-Ok-put.ensures.ok)

pub returns-clause-ended : goal.returns-clause-ended
returns-clause-ended g c =
    end_part c.in-Ok.line c.in-Ok.ensures (c.in-Err.ensures.cause.failed refl) (rw c.bytes.ensures at c.in-Err.ensures.err)
