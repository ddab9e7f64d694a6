-- Well-formed events.
--     IsProper     a part of positive width, in its whole and in an arc
--     IsNear       a whole that hangs over a run of cycles by at most so many, at either end
--     ProperLaw    the events of a valid tree in a cycle are well formed
use Rattle.std.specs.Prelude.{ℕ, ℤ, pos, ◌+ℤ◌, ◌-ℤ◌, List}
use Rattle.std.specs.List.{AllByRecursion}
use Rattle.tdl_fraction.specs.Rational.{whole, ◌≤ℚ◌}
use Rattle.tdl_fraction.specs.Arc.{Arc, IsArc, IsInside}
use Rattle.tdl_event.specs.Event.{Event}
use Rattle.tdl_expr.specs.Tree.{Tree}
use Rattle.tdl_expr.specs.Valid.{IsValid}
use Rattle.tdl_meaning.specs.Pattern.{Pattern, cycle_arc}
use Rattle.tdl_meaning.specs.Meaning.{cyc}

abbrev pub Each : {X : Type 0} → (X → Type 0) → List X → Type 0
Each = AllByRecursion

-- a part of positive width, in its whole and in an arc
pub record IsProper (a : Arc) (e : Event) : Type 0 where
  pub width : IsArc e.part
  pub in_whole : IsInside e.part e.whole
  pub in_arc : IsInside e.part a

-- the whole lies from h before the cycle first up to h after the cycle's end last
pub record IsNear (h : ℕ) (first last : ℤ) (e : Event) : Type 0 where
  pub start : whole (first -ℤ pos h) ≤ℚ e.whole.start
  pub stop : e.whole.stop ≤ℚ whole (last +ℤ pos h)

abbrev pub HasProperEvents : Pattern → Type 0
HasProperEvents p = (c : ℤ) → Each (IsProper (cycle_arc c)) (p c)

abbrev pub ProperLaw : Type 0
ProperLaw = (e : Tree) → IsValid e → HasProperEvents (cyc e)
