use Rattle.tdl_log.proofs.OneLog.{log_tells}
use Rattle.tdl_log.proofs.laws.logs_tell_their_sheets.Goals as goal

pub returns : goal.returns
returns g c = log_tells g.R.Reader.reads c.reading_law.ensures
