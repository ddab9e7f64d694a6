use Rattle.tdl_combinator.proofs.functions.ByCycle.{cycle_laws}
use Rattle.tdl_combinator.proofs.functions.ByEvent.{event_laws}
use Rattle.tdl_combinator.proofs.laws.functions_keep_their_laws.Goals as goal

pub returns-clause-cycles : goal.returns-clause-cycles
returns-clause-cycles c =
    let patterns = c.patterns_keep_their_laws.ensures in
    cycle_laws patterns.rates patterns.mixes c.times_of_trees_are_bounded.ensures.proper

pub returns-clause-events : goal.returns-clause-events
returns-clause-events c =
    let patterns = c.patterns_keep_their_laws.ensures in
    event_laws patterns.rates patterns.mixes c.times_of_trees_are_bounded.ensures.proper
