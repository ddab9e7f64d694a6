use Rattle.tdl_io.specs.inside.Again.{most_again, MadeAgain}
use Rattle.tdl_io.proofs.patient.Patient.write_again.Given as goal

abbrev pub invariant-loop-tries : goal.invariant-loop-tries
invariant-loop-tries g l = (answer : _) (new : _) → MadeAgain (g.D.OneWrite.writes l.piece) l.tries l.self.device answer new
    → MadeAgain (g.D.OneWrite.writes l.piece) most_again l.initial.self.device answer new

abbrev pub decreases-loop-tries : goal.decreases-loop-tries
decreases-loop-tries g l = l.tries
