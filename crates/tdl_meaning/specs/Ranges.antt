-- The range of the times of trees: how fine they are and how far they reach.
--     RangeLaw     the events of an arc are well formed, on the tree's grid and near the arc
--     IsAsked      an arc on a grid, with ends of bounded size
--     SizeLaw      no end of an event is further from 0 than the ask's size and the tree's hang together
--     NumberLaw    denominators are at most the tree's fineness, and sizes at most its reach
--     GridLaw      all ends of events are on the grid that the tree's and the ask's have in common
use Rattle.std.specs.Prelude.{◌≡◌, ℕ, ◌+◌, ◌<◌, ◌≤◌, ◌⊎◌, pos, neg_ℤ, List}
use Rattle.tdl_fraction.specs.Divisor.{lcm}
use Rattle.tdl_fraction.specs.Rational.{Rational, whole, ◌≤ℚ◌, floor, ceil, IsMultiple}
use Rattle.tdl_fraction.specs.Range.{IsWithin}
use Rattle.tdl_fraction.specs.Arc.{Arc, IsArc, IsOnGridOf}
use Rattle.tdl_event.specs.Event.{Event}
use Rattle.tdl_expr.specs.Tree.{Tree}
use Rattle.tdl_expr.specs.Valid.{IsValid}
use Rattle.tdl_expr.specs.Bounds.{grid, hang, fine, reach}
use Rattle.tdl_meaning.specs.Pattern.{over}
use Rattle.tdl_meaning.specs.Meaning.{cyc}
use Rattle.tdl_meaning.specs.Proper.{Each, IsProper, IsNear}

-- the ends of wholes are on the grid, and so are the ends of parts, but where a part ends with the arc
pub record IsGriddedIn (g : ℕ) (a : Arc) (e : Event) : Type 0 where
  pub whole_start : IsMultiple g e.whole.start
  pub whole_stop : IsMultiple g e.whole.stop
  pub part_start : IsMultiple g e.part.start ⊎ (e.part.start ≡ a.start)
  pub part_stop : IsMultiple g e.part.stop ⊎ (e.part.stop ≡ a.stop)

pub record IsInRange (g h : ℕ) (a : Arc) (e : Event) : Type 0 where
  pub proper : IsProper a e
  pub gridded : IsGriddedIn g a e
  pub near : IsNear h (floor a.start) (ceil a.stop) e

abbrev pub RangeLaw : Type 0
RangeLaw = (e : Tree) → IsValid e → (a : Arc) → IsArc a → Each (IsInRange (grid e) (hang e) a) (over (cyc e) a)

-- an arc on the grid q, with ends of size at most m
pub record IsAsked (q m : ℕ) (a : Arc) : Type 0 where
  pub is_arc : IsArc a
  pub on_grid : IsOnGridOf q a
  pub from : whole (neg_ℤ (pos m)) ≤ℚ a.start
  pub to : a.stop ≤ℚ whole (pos m)

-- all four ends of an event
pub record HasEnds (P : Rational → Type 0) (e : Event) : Type 0 where
  pub whole_start : P e.whole.start
  pub whole_stop : P e.whole.stop
  pub part_start : P e.part.start
  pub part_stop : P e.part.stop

-- no end is of a size above the ask's and the hang together
abbrev pub SizeLaw : Type 0
SizeLaw = (q m : ℕ) (e : Tree) → IsValid e → (a : Arc) → IsAsked q m a → Each (HasEnds (IsWithin (m + hang e))) (over (cyc e) a)

-- a time with a denominator of at most f, and of a size of at most r
pub record IsBounded (f r : ℕ) (t : Rational) : Type 0 where
  pub fine : t.den ≤ f
  pub within : IsWithin r t

-- the ends of the arc and all ends of the events are as fine and as far as the tree's numbers say
pub record AreBounded (f r : ℕ) (a : Arc) (events : List Event) : Type 0 where
  pub start : IsBounded f r a.start
  pub stop : IsBounded f r a.stop
  pub ends : Each (HasEnds (IsBounded f r)) events

abbrev pub NumberLaw : Type 0
NumberLaw = (q m : ℕ) (e : Tree) → IsValid e → 0 < q → (a : Arc) → IsAsked q m a → AreBounded (fine e q) (reach e m) a (over (cyc e) a)

-- each end of an event is a whole count of 1 over the least common multiple of the tree's grid and the ask's
abbrev pub GridLaw : Type 0
GridLaw = (q m : ℕ) (e : Tree) → IsValid e → (a : Arc) → IsAsked q m a → Each (HasEnds (IsMultiple (lcm (grid e) q))) (over (cyc e) a)
