-- The ticks that the beats of a clock come to, in a run of so many cycles. All places are in tick units.
--     least_step    a beat nearer than this is passed over: 1/32 cycle
--     steps_from    so many steps of a cycle from a place on, and then the target
--     steps_to      the ticks from a place up to a target, in steps of at most a cycle; none where it is not above the place
--     is_due        whether a target is played from a place: it is not too near, or it is the goal
--     ticks_from    the ticks from a place on, where the last beat was this, by the beats that are left
--     ticks         the ticks of a run of so many cycles, by all its beats
use Rattle.std.specs.Prelude.{ℕ, zero, suc, ◌+◌, ◌-◌, ◌*◌, ◌/◌, min, Bool, ◌==◌, ◌||◌, nat_lt, nat_le, if◌then◌else◌, List, [], ◌∷◌, ◌++◌}
use Rattle.tdl_fraction.specs.Units.{tick_units}

abbrev pub least_step : ℕ
least_step = 1440

abbrev pub steps_from : ℕ → ℕ → ℕ → List ℕ
steps_from zero place target = target ∷ []
steps_from (suc count) place target = (place + tick_units) ∷ steps_from count (place + tick_units) target

abbrev pub steps_to : ℕ → ℕ → List ℕ
steps_to place target = if nat_lt place target then steps_from ((target - place - 1) / tick_units) place target else []

abbrev pub is_due : ℕ → ℕ → ℕ → Bool
is_due goal place target = (target == goal) || nat_le (place + least_step) target

-- a beat above the goal plays up to the goal; after the last beat the rest up to it is played, however near
abbrev pub ticks_from : ℕ → ℕ → ℕ → List ℕ → List ℕ
ticks_from goal place last [] = steps_to place (min last goal)
ticks_from goal place last (beat ∷ beats) =
    let target = min beat goal in
    if nat_lt place goal
    then (if is_due goal place target then steps_to place target ++ ticks_from goal target beat beats else ticks_from goal place beat beats)
    else []

abbrev pub ticks : List ℕ → ℕ → List ℕ
ticks beats cycles = ticks_from (tick_units * cycles) 0 0 beats
