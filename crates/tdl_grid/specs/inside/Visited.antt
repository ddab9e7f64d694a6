-- What a visit does: it adds items to a list, and takes steps.
--     Gains         items that are these events in a unit are added, by so many steps; where memory runs out, it took no more than
--                   the last number of steps
--     IsVisit       those of a tree in a span of a cycle; what a node's own function does is the rest of its visit, whose step was
--                   taken before, so that its count afterwards is taken with one more
--     IsVisitMet    those of a tree in what an arc has of a cycle, if it has something of it
--     IsVisits      those of a tree in an arc of any cycles
--     IsStepVisit   those of a tree that is a step of a sequence, in what the step's share has of a span of the cycle
use Rattle.std.specs.Prelude.{◌≡◌, ℕ, ◌+◌, ◌*◌, ◌≤◌, List, map, length, Option, Result, OnOk, ℤ}
use Rattle.tdl_control.specs.declared.faults.NoMemory.{NoMemory}
use Rattle.tdl_fraction.specs.Arc.{Arc}
use Rattle.tdl_event.specs.Event.{Event}
use Rattle.tdl_expr.specs.Tree.{Tree}
use Rattle.tdl_expr.specs.Bounds.{bounds}
use Rattle.tdl_meaning.specs.Pattern.{over, cycles_of, moved, squeezed}
use Rattle.tdl_meaning.specs.Meaning.{cyc}
use Rattle.tdl_meaning.specs.inside.Arcs.{over_met, step_ask}
use Rattle.tdl_visits.specs.inside.Visits.{visits, visits_in, if_met}
use Rattle.tdl_grid.specs.Span.{Span, arc_of}
use Rattle.tdl_grid.specs.Item.{Item, Adds}
use Rattle.tdl_grid.specs.declared.asks.CountAsk.{CountAsk}
use Rattle.tdl_grid.specs.declared.steps.Step.{Step}

pub record Gains (u : ℕ) (new : List Event) (taken most : ℕ) (result : Result (Unit {0}) NoMemory) (out out' : List Item)
    (steps steps' : ℕ) : Type 0 where
  pub items : OnOk result (Adds u out out' new)
  pub exact : OnOk result (steps' ≡ steps + taken)
  pub few : steps' ≤ steps + most

abbrev pub IsVisit : Tree → CountAsk → Result (Unit {0}) NoMemory → List Item → List Item → ℕ → ℕ → Type 0
IsVisit e ask =
    Gains ask.unit (over (cyc e) (arc_of ask.unit ask.arc)) (visits e ask.cycle (arc_of ask.unit ask.arc)) (bounds e).load

abbrev pub IsVisitMet : Tree → ℤ → ℕ → Option Arc → Result (Unit {0}) NoMemory → List Item → List Item → ℕ → ℕ → Type 0
IsVisitMet e c u met = Gains u (over_met (cyc e) met) (if_met (visits e c) met) (bounds e).load

abbrev pub IsVisits : Tree → ℕ → Arc → Result (Unit {0}) NoMemory → List Item → List Item → ℕ → ℕ → Type 0
IsVisits e u a = Gains u (over (cyc e) a) (visits_in e a) (length (cycles_of a) * (bounds e).load)

abbrev pub IsStepVisit : Tree → Step → Span → Result (Unit {0}) NoMemory → List Item → List Item → ℕ → ℕ → Type 0
IsStepVisit e s span =
    let asked = step_ask s.cycle s.before s.weight s.total (arc_of (s.width * s.total) span) in
    Gains (s.width * s.total) (map (moved (squeezed s.cycle s.before s.weight s.total)) (over_met (cyc e) asked)) (if_met (visits e s.cycle) asked)
    (bounds e).load
