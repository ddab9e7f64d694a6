use Rattle.tdl_log.specs.Log.{log_of}
use Rattle.tdl_log.proofs.LogFronts.{behind_fault, whole}
use Rattle.tdl_log.proofs.walks.Walk.end.Goals as goal

pub returns-then-self-text-clause-err : goal.returns-then-self-text-clause-err
returns-then-self-text-clause-err g c =
    behind_fault g.R.Reader.reads c.requires.holds.reading (log_of c.args.self.sheet) c.args.text.now c.args.self.at c.requires.holds.sheet c.requires.read
    c.if-self-text.true

pub returns-clause-ok : goal.returns-clause-ok
returns-clause-ok g c =
    (c.requires.holds.sheet, whole (log_of c.args.self.sheet) c.args.text.now c.args.self.at c.requires.read c.if-self-text.false)
