use Rattle.std.proofs.Common.{◌<◌, ◌++◌, subst, sym, ap, ◌∙◌}
use Rattle.std.proofs.lemmas.Result.{IfOk-equal}
use Rattle.tdl_meaning.specs.Proper.{Each}
use Rattle.tdl_grid.specs.ItemLaws.{events_of}
use Rattle.tdl_grid.specs.Times.{HasTimes}
use Rattle.tdl_grid.proofs.Roots.{tick_counted}
use Rattle.tdl_grid.proofs.queries.GridProgram.query_onto.Goals as goal

pub add_events-requires-clause-positive : goal.add_events-requires-clause-positive
add_events-requires-clause-positive g c = subst (λ n. 0 < n) (sym c.unit.ensures.value) c.in_ok-items.ensures.items.positive

pub add_events-requires-clause-in_range : goal.add_events-requires-clause-in_range
add_events-requires-clause-in_range g c =
    subst (λ n. Each (HasTimes n) c.in_ok-items.items) (sym c.unit.ensures.value) c.in_ok-items.ensures.items.in_range

pub add_events-requires-clause-stop : goal.add_events-requires-clause-stop
add_events-requires-clause-stop g c =
    rw c.stop.ensures.value (tick_counted _ c.unit.result c.unit.ensures.value c.args.arc.stop c.requires.on_grid.stop)

pub returns-clause-events : goal.returns-clause-events
returns-clause-events g c =
    let made = ap (λ n. events_of n c.in_ok-items.items) c.unit.ensures.value ∙ c.in_ok-items.ensures.items.events in
    rw (← c.self.view_is) (IfOk-equal c.add_events.result _ _ _ c.add_events.ensures (ap (λ es. c.args.out.now ++ es) made))
