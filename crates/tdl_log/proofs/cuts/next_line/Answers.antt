use Rattle.tdl_log.proofs.LogFronts.{early_fault}
use Rattle.tdl_log.proofs.cuts.next_line.Goals as goal

pub returns-in-None-clause-err : goal.returns-in-None-clause-err
returns-in-None-clause-err g c log lines later sheet same read =
    early_fault g.R.Reader.reads c.requires.reading log lines later c.args.text.now c.args.at sheet same read c.in-None.ensures.none
