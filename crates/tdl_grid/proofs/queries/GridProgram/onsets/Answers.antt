use Rattle.std.proofs.Common.{◌<◌, ◌++◌, subst, sym, ap, ◌∙◌}
use Rattle.std.specs.List.{filter}
use Rattle.tdl_meaning.specs.Onsets.{has_onset}
use Rattle.tdl_meaning.specs.Proper.{Each}
use Rattle.tdl_grid.specs.ItemLaws.{events_of}
use Rattle.tdl_grid.specs.Times.{HasTimes}
use Rattle.tdl_grid.proofs.Roots.{tick_counted}
use Rattle.tdl_grid.proofs.queries.GridProgram.onsets.Goals as goal

pub add_onsets-requires-clause-positive : goal.add_onsets-requires-clause-positive
add_onsets-requires-clause-positive g c = subst (λ n. 0 < n) (sym c.unit-unit.ensures.value) c.in_ok-items.ensures.items.positive

pub add_onsets-requires-clause-in_range : goal.add_onsets-requires-clause-in_range
add_onsets-requires-clause-in_range g c =
    subst (λ n. Each (HasTimes n) c.in_ok-items.items) (sym c.unit-unit.ensures.value) c.in_ok-items.ensures.items.in_range

pub add_onsets-requires-clause-stop : goal.add_onsets-requires-clause-stop
add_onsets-requires-clause-stop g c =
    rw c.stop.ensures.value (tick_counted _ c.unit-unit.result c.unit-unit.ensures.value c.args.arc.stop c.requires.on_grid.stop)

pub returns-clause-events : goal.returns-clause-events
returns-clause-events g c =
    let made = ap (λ n. events_of n c.in_ok-items.items) c.unit-unit.ensures.value ∙ c.in_ok-items.ensures.items.events in
    rw (← c.self.view_is) (c.in_ok-add_onsets.ensures ∙ ap (λ es. es ++ filter has_onset (events_of c.unit-unit.result c.in_ok-items.items)) c.new-events.ensures
    ∙ ap (filter has_onset) made)
