-- How many weights of a sequence have passed in a cycle.
--     weights_at     how many weights of W in all a time comes after the start of its cycle
--     HavePassed     so many have ended where an arc of the cycle starts, and so many have begun before it stops
use Rattle.std.specs.Prelude.{◌≡◌, ℕ, ℤ, pos}
use Rattle.tdl_fraction.specs.Rational.{Rational, whole, ◌-ℚ◌, ◌*ℚ◌, floor, ceil}
use Rattle.tdl_fraction.specs.Arc.{Arc}

abbrev pub weights_at : ℤ → ℕ → Rational → Rational
weights_at c W t = (t -ℚ whole c) *ℚ whole (pos W)

pub record HavePassed (c : ℤ) (W : ℕ) (a : Arc) (ended begun : ℕ) : Type 0 where
  pub start : pos ended ≡ floor (weights_at c W a.start)
  pub stop : pos begun ≡ ceil (weights_at c W a.stop)
