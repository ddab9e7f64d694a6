use Rattle.tdl_core.specs.Sessions.{Refuses}
use Rattle.tdl_core.proofs.Ticking.{on_after_refusal, on_after_tick}
use Rattle.tdl_core.proofs.passes.tickers_go_on.Goals as goal

pub returns-clause-ticks_on : goal.returns-clause-ticks_on
returns-clause-ticks_on c = on_after_tick c.lines_make_histories.ensures.growth

pub returns-clause-refused_on : goal.returns-clause-refused_on
returns-clause-refused_on c = λ p q call refusal. on_after_refusal (λ es. Refuses es call refusal) p q
