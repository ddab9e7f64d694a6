use Rattle.tdl_log.proofs.ReadDeeds.{unswapped}
use Rattle.tdl_log.proofs.ReadFronts.{if_none_weaker}
use Rattle.tdl_log.proofs.deeds.read_deed.Goals as goal

pub returns-in-None-clause-none : goal.returns-in-None-clause-none
returns-in-None-clause-none g c =
    if_none_weaker c.read_unswapped.result
    (λ none entries deed told may e.
    none entries deed told (unswapped g.R.Reader.reads entries c.args.who c.args.said.now c.in-None.ensures.none deed may e) e)
    c.read_unswapped.ensures.none
