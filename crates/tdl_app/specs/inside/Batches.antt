-- An arc that is cut into batches of as many whole cycles each, one after another.
--     run              so many cycles, from this one on
--     batch             batch k, from 0
--     front            the batches before batch k
--     batch_events      a pattern's events in what the arc has of batch k
--     front_events     those in what it has before batch k
--     IsCut            an arc that is cut into batches
--     AreBatchesOf       the batches of a tree that can be played
use Rattle.std.specs.Prelude.{◌≡◌, ℕ, ◌*◌, ◌<◌, ◌≤◌, ◌^◌, ℤ, pos, ◌+ℤ◌, ◌≤ℤ◌, List}
use Rattle.tdl_fraction.specs.Rational.{whole, floor, ceil}
use Rattle.tdl_fraction.specs.Arc.{Arc, meet}
use Rattle.tdl_fraction.specs.Units.{IsQueryArc}
use Rattle.tdl_event.specs.Event.{Event}
use Rattle.tdl_expr.specs.Tree.{Tree}
use Rattle.tdl_expr.specs.Valid.{IsValid, IsWithinLimits}
use Rattle.tdl_meaning.specs.Pattern.{Pattern}
use Rattle.tdl_meaning.specs.Meaning.{cyc}
use Rattle.tdl_meaning.specs.Repeats.{Repeats}
use Rattle.tdl_meaning.specs.inside.Arcs.{over_met}
use Rattle.tdl_app.specs.declared.batches.Batches.{Batches}

abbrev pub run : ℤ → ℕ → Arc
run c n = record { start = whole c; stop = whole (c +ℤ pos n) }

abbrev pub batch : Batches → ℕ → Arc
batch s k = run (s.first +ℤ pos (k * s.cycles)) s.cycles

abbrev pub front : Batches → ℕ → Arc
front s k = run s.first (k * s.cycles)

abbrev pub batch_events : Pattern → Batches → ℕ → List Event
batch_events p s k = over_met p (meet (batch s k) s.arc)

abbrev pub front_events : Pattern → Batches → ℕ → List Event
front_events p s k = over_met p (meet (front s k) s.arc)

-- the batches are as long as each other, and cover their arc from its first cycle on
pub record IsCut (s : Batches) : Type 0 where
  pub query : IsQueryArc s.arc
  pub first : s.first ≡ floor s.arc.start
  pub some : 0 < s.cycles
  pub few : s.count * s.cycles ≤ 2 ^ 21
  pub all : ceil s.arc.stop ≤ℤ (s.first +ℤ pos (s.count * s.cycles))

-- the batches from known_from on start in the arc, those before known_to end in it, and what these have repeats
pub record AreBatchesOf (e : Tree) (s : Batches) : Type 0 where
  pub cut : IsCut s
  pub valid : IsValid e
  pub limits : IsWithinLimits e
  pub known_from : ceil s.arc.start ≤ℤ (s.first +ℤ pos s.known_from)
  pub known_to : (s.first +ℤ pos (s.known_to * s.cycles)) ≤ℤ floor s.arc.stop
  pub repeats : 0 < s.known_to → Repeats s.cycles (cyc e)
