use Rattle.tdl_log.proofs.ReadFronts.{cut_found, cut_missing, if_none_always}
use Rattle.tdl_log.proofs.fronts.cut_at.Goals as goal

pub returns-in_err-at-clause-none : goal.returns-in_err-at-clause-none
returns-in_err-at-clause-none c = if_none_always c.from_residual.result (cut_missing c.args.mark c.args.text.now c.in_err-at.ensures)

pub returns-clause-some : goal.returns-clause-some
returns-clause-some c = cut_found c.args.mark c.args.text.now c.in_ok-at.at c.in_ok-at.ensures
