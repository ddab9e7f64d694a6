use Rattle.tdl_log.proofs.LogFronts.{text_has, text_of, unrefused}
use Rattle.tdl_log.proofs.OneLog.{log_tells}
use Rattle.tdl_log.proofs.laws.logs_are_read_back.Goals as goal

pub returns-clause-texts : goal.returns-clause-texts
returns-clause-texts g c text log = (
  text_has g.R.Reader.reads c.reading_law.ensures text log,
  λ is. text_of g.R.Reader.reads c.reading_law.ensures text log is.0 is.1,
)

pub returns-clause-no_fault : goal.returns-clause-no_fault
returns-clause-no_fault g c = unrefused g.R.Reader.reads c.reading_law.ensures

pub returns-clause-no_other : goal.returns-clause-no_other
returns-clause-no_other g c log other sheet also same = log_tells g.R.Reader.reads c.reading_law.ensures log other sheet.run also.run same
