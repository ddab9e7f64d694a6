use Rattle.tdl_app.proofs.ServedRuns.{end_done}
use Rattle.tdl_app.proofs.served.end_run.Goals as goal

pub returns-in-Done-clause-ended : goal.returns-in-Done-clause-ended
returns-in-Done-clause-ended g c = rw c.in-Done.is (λ wires. end_done wires c.put_end.ensures.ended)
