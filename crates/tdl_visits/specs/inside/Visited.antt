-- What a visit does: it adds events to a list, and takes steps.
--     Ask           an arc of a cycle, which a tree is asked for
--     MayVisit      it may be asked for that
--     Adds          these events are added, by so many steps; where memory runs out, it took no more than the last number of steps
--     IsVisit       those of a tree in an arc of a cycle; what a node's own function does is the rest of its visit, whose step was
--                   taken before, so that its count afterwards is taken with one more
use Rattle.std.specs.Prelude.{◌≡◌, ℕ, ◌+◌, ◌≤◌, List, ◌++◌, Result, OnOk, ℤ}
use Rattle.tdl_control.specs.declared.faults.NoMemory.{NoMemory}
use Rattle.tdl_fraction.specs.Arc.{Arc, IsInside}
use Rattle.tdl_event.specs.Event.{Event}
use Rattle.tdl_expr.specs.Tree.{Tree}
use Rattle.tdl_expr.specs.Bounds.{bounds}
use Rattle.tdl_meaning.specs.Pattern.{over, cycle_arc}
use Rattle.tdl_meaning.specs.Meaning.{cyc}
use Rattle.tdl_meaning.specs.inside.Conditions.{MayAsk}
use Rattle.tdl_visits.specs.inside.Visits.{visits}

pub record Ask : Type 0 where
  pub cycle : ℤ
  pub arc : Arc

pub record MayVisit (e : Tree) (ask : Ask) : Type 0 where
  pub may : MayAsk e ask.arc
  pub inside : IsInside ask.arc (cycle_arc ask.cycle)

pub record Adds (new : List Event) (taken most : ℕ) (result : Result (Unit {0}) NoMemory) (out out' : List Event) (steps steps' : ℕ) : Type 0 where
  pub events : OnOk result (out' ≡ out ++ new)
  pub exact : OnOk result (steps' ≡ steps + taken)
  pub few : steps' ≤ steps + most

abbrev pub IsVisit : Tree → Ask → Result (Unit {0}) NoMemory → List Event → List Event → ℕ → ℕ → Type 0
IsVisit e ask = Adds (over (cyc e) ask.arc) (visits e ask.cycle ask.arc) (bounds e).load
