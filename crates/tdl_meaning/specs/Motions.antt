-- How the events of a child move into its parent, and what has to be in range for it.
--     time_at        where a time goes
--     IsForward      the motion keeps the order of times
--     StepFits       what is worked out on the way into the share of a step can be worked out
--     CanMove        the time where it goes, and each time between, is in range
use Rattle.std.specs.Prelude.{◌≢◌, ℕ, ◌<◌, ◌≤◌, ◌^◌, ℤ, pos}
use Rattle.tdl_fraction.specs.Rational.{Rational, whole, ◌+ℚ◌, ◌-ℚ◌, ◌*ℚ◌, ◌/ℚ◌, ◌<ℚ◌}
use Rattle.tdl_fraction.specs.Range.{InRange}
use Rattle.tdl_meaning.specs.Pattern.{squeezed}
use Rattle.tdl_meaning.specs.declared.motions.Motion.{Motion}
use Rattle.tdl_meaning.specs.declared.motions.Motion.TheVariants.{Slower, Later, Shifted, Step}

-- of the time `((t - c) * w + o) / W + c`: the weights are small, and both times from the cycle's start are in range
pub record StepFits (c : ℤ) (o w W : ℕ) (t : Rational) : Type 0 where
  pub before : o ≤ 2 ^ 44
  pub weight : w ≤ 2 ^ 44
  pub since : InRange (t -ℚ whole c)
  pub sum : InRange ((whole (pos o) +ℚ (t -ℚ whole c) *ℚ whole (pos w)) /ℚ whole (pos W))

abbrev pub time_at : Motion → Rational → Rational
time_at (Slower rate) t = t /ℚ rate
time_at (Later by) t = t +ℚ whole by
time_at (Shifted by) t = t +ℚ by
time_at (Step cycle before weight total) t = squeezed cycle before weight total t

abbrev pub IsForward : Motion → Type 0
IsForward (Slower rate) = whole (pos 0) <ℚ rate
IsForward (Later by) = Unit {0}
IsForward (Shifted by) = Unit {0}
IsForward (Step cycle before weight total) = (0 < weight) × (0 < total)

abbrev pub CanMove : Motion → Rational → Type 0
CanMove (Slower rate) t = (rate ≢ whole (pos 0)) × InRange (t /ℚ rate)
CanMove (Later by) t = InRange (t +ℚ whole by)
CanMove (Shifted by) t = InRange (t +ℚ by)
CanMove (Step cycle before weight total) t = (0 < total) × StepFits cycle before weight total t × InRange (squeezed cycle before weight total t)
