use Rattle.tdl_app.proofs.CompleteStatuses.{has_status}
use Rattle.tdl_app.proofs.CompleteRuns.{drilled_out, played_out, printed, served_out}
use Rattle.tdl_app.proofs.laws.runs_are_complete.Goals as goal

pub returns : goal.returns
returns g c = record { status = has_status; query = printed; play = played_out; serve = served_out; drill = drilled_out }
