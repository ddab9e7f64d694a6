use Rattle.tdl_log.proofs.FirstFeeds.{line_found, line_missing}
use Rattle.tdl_log.proofs.cuts.line_at.Goals as goal

pub returns-in-Some-clause-some : goal.returns-in-Some-clause-some
returns-in-Some-clause-some c = line_found c.args.text.now c.args.at c.requires c.in-Some.count c.in-Some.ensures

pub returns-in-None-clause-none : goal.returns-in-None-clause-none
returns-in-None-clause-none c = line_missing c.args.text.now c.args.at c.requires c.in-None.ensures
