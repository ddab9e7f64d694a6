-- What the evaluator on counts may be asked.
--     time_ask        an ask in times
--     IsUnit          a unit for a tree whose asks are on the grid of 1 / q: the tree's own grid divides it, and it is not too fine
--     MayCount        a tree may be asked for an arc in counts of a unit
--     MayCountEach    each of several trees may be
--     MayCountVisit   a tree may be asked for a span of a cycle
--     MayCountStep    a step of a sequence may be asked for what it has of a span, and its answer can be moved into its share
--     IsJoinUnit      the unit of a join's own grid, and how many times as fine that of the wholes is
--     MayAskWhole     the other side of a join may be asked for a whole, which is on the join's grid and meets the cycle
use Rattle.std.specs.Prelude.{◌≡◌, ℕ, ◌*◌, ◌^◌, ◌<◌, ◌≤◌, ℤ, nat_abs, map, Some}
use Rattle.std.specs.Int.{◌∣◌}
use Rattle.tdl_fraction.specs.Range.{InRange}
use Rattle.tdl_fraction.specs.Arc.{Arc, IsInside}
use Rattle.tdl_expr.specs.Tree.{Tree, Trees}
use Rattle.tdl_expr.specs.Bounds.{grid}
use Rattle.tdl_meaning.specs.Pattern.{over, cycle_arc, moved, squeezed}
use Rattle.tdl_meaning.specs.Meaning.{cyc}
use Rattle.tdl_meaning.specs.Proper.{Each}
use Rattle.tdl_meaning.specs.Ranges.{HasEnds}
use Rattle.tdl_meaning.specs.Asks.{IsChild, IsCycleOf}
use Rattle.tdl_meaning.specs.inside.Conditions.{MayAsk}
use Rattle.tdl_visits.specs.inside.Visited.{Ask}
use Rattle.tdl_grid.specs.Span.{Span, arc_of, finer_span}
use Rattle.tdl_grid.specs.Step.{asked_step}
use Rattle.tdl_grid.specs.declared.asks.CountAsk.{CountAsk}
use Rattle.tdl_grid.specs.declared.asks.JoinUnit.{JoinUnit}
use Rattle.tdl_grid.specs.declared.steps.Step.{Step}

abbrev pub time_ask : CountAsk → Ask
time_ask ask = record { cycle = ask.cycle; arc = arc_of ask.unit ask.arc }

pub record IsUnit (u : ℕ) (e : Tree) (q : ℕ) : Type 0 where
  pub positive : 0 < u
  pub divides : grid e ∣ u
  pub small : u ≤ q * 2 ^ 44

pub record MayCount (e : Tree) (u : ℕ) (a : Arc) : Type 0 where
  pub may : MayAsk e a
  pub unit : IsUnit u e may.q

abbrev pub MayCountEach : Trees → ℕ → Arc → Type 0
MayCountEach trees u a = (k : ℕ) (e : Tree) → IsChild k trees e → MayCount e u a

pub record MayCountVisit (e : Tree) (ask : CountAsk) : Type 0 where
  pub count : MayCount e ask.unit (arc_of ask.unit ask.arc)
  pub inside : IsInside (arc_of ask.unit ask.arc) (cycle_arc ask.cycle)

pub record MayCountStep (e : Tree) (s : Step) (a : Span) : Type 0 where
  pub visit : (d : Span) → asked_step s.cycle s.before s.weight s.total s.width a ≡ Some d
      → MayCountVisit e (record { cycle = s.cycle; unit = s.width * s.weight; arc = d })
  pub in_range : (d : Span) → asked_step s.cycle s.before s.weight s.total s.width a ≡ Some d
      → Each (HasEnds InRange) (map (moved (squeezed s.cycle s.before s.weight s.total)) (over (cyc e) (arc_of (s.width * s.weight) d)))

pub record IsJoinUnit (j : JoinUnit) : Type 0 where
  pub unit : 0 < j.unit
  pub times : 0 < j.times
  pub small : j.unit * j.times ≤ 2 ^ 88

pub record MayAskWhole (e : Tree) (c : ℤ) (j : JoinUnit) (whole : Span) : Type 0 where
  pub start : j.times ∣ nat_abs whole.start
  pub stop : j.times ∣ nat_abs whole.stop
  pub may : (s : Span) → finer_span j.times s ≡ whole → MayCount e j.unit (arc_of j.unit s)
  pub cycle : IsCycleOf (arc_of (j.unit * j.times) whole) c
