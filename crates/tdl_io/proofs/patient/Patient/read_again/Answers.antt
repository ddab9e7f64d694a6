use Rattle.std.proofs.Common.{rules}
use Rattle.tdl_io.proofs.MadeAgain.{made_last, made_more}
use Rattle.tdl_io.proofs.patient.Patient.read_again.Goals as goal

pub loop-tries-preserved : goal.loop-tries-preserved
loop-tries-preserved g c = λ answer new rest. c.loop-tries.invariant answer new
    (made_more _ c.loop-tries.tries _ c.read_once-answer.result _ answer new (search rules) (search rules) c.read_once-answer.ensures rest)

pub returns-then-tries-eq0 : goal.returns-then-tries-eq0
returns-then-tries-eq0 g c = c.loop-tries.invariant _ _ (made_last _ c.loop-tries.tries _ _ _ c.read_once-answer.ensures (search rules))
