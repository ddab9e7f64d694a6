use Rattle.tdl_io.specs.inside.Again.{most_again, MadeAgain}
use Rattle.tdl_io.proofs.patient.Patient.read_again.Given as goal

abbrev pub invariant-loop-tries : goal.invariant-loop-tries
invariant-loop-tries g l = (answer : _) (new : _) → MadeAgain g.D.OneRead.reads l.tries (l.self.device, l.into) answer new
    → MadeAgain g.D.OneRead.reads most_again (l.initial.self.device, l.initial.into) answer new

abbrev pub decreases-loop-tries : goal.decreases-loop-tries
decreases-loop-tries g l = l.tries
