-- The ticks of a clock that waits.
use Rattle.std.proofs.Common.{◌≡◌, ℕ, zero, suc, ◌+◌, ◌-◌, ◌*◌, ◌≤◌, List, [], ◌∷◌, ◌++◌, ap, inl, inr, sym, ◌∙◌, arith}
use Rattle.std.proofs.lemmas.Bool.{cases_lt}
use Rattle.tdl_fraction.specs.Units.{tick_units}
use Rattle.tdl_io.specs.Sleep.{beat_units, next_beats}
use Rattle.tdl_io.proofs.Beats.{next_beat, no_beat}
use Rattle.tdl_beats.specs.Beats.{steps_to, ticks_from, ticks}
use Rattle.tdl_beats.proofs.Steps.{steps_near}
use Rattle.tdl_beats.proofs.Ticks.{ticks_due, ticks_over}

-- from one of its beats on, each next one is a tick, up to a goal that is one of them
ticks_waiting : (most count given : ℕ) → given ≤ most → most ≤ given + count
    → ticks_from (beat_units * most) (beat_units * given) (beat_units * given) (next_beats count given) ≡ next_beats (most - given) given
unfolding next_beats
ticks_waiting most zero given from few =
    ticks_over (beat_units * most) (beat_units * given) (beat_units * given) [] (omega arith) ∙ sym (no_beat most given (omega arith))
ticks_waiting most (suc count) given from few =
    let goal : ℕ = beat_units * most in
    let place : ℕ = beat_units * given in
    let beat : ℕ = beat_units * (given + 1) in
    let beats : List ℕ = next_beats count (given + 1) in
    elim (cases_lt given most) [
      | inl below ↦
          let first : steps_to place beat ≡ beat ∷ [] = steps_near place beat (omega arith) (omega arith) in
          let rest : ticks_from goal beat beat beats ≡ next_beats (most - (given + 1)) (given + 1) =
          ticks_waiting most count (given + 1) (omega arith) (omega arith) in
          ticks_due goal place place beat beat beats (omega arith) (omega arith) (inr (omega arith))
          ∙ ap (λ (xs : List ℕ). xs ++ ticks_from goal beat beat beats) first
          ∙ ap (λ (xs : List ℕ). beat ∷ xs) rest
          ∙ sym (next_beat most given below)
      | inr over ↦ ticks_over goal place place (beat ∷ beats) (omega arith) ∙ sym (no_beat most given over)
    ]

-- so a run ticks at each beat up to its goal
pub ticks_of_waiting : (cycles count : ℕ) → 32 * cycles ≤ count → ticks (next_beats count 0) cycles ≡ next_beats (32 * cycles) 0
ticks_of_waiting cycles count enough =
    let goal : tick_units * cycles ≡ beat_units * (32 * cycles) = omega arith in
    let all : 32 * cycles - 0 ≡ 32 * cycles = omega arith in
    ap (λ (to : ℕ). ticks_from to 0 0 (next_beats count 0)) goal
    ∙ ticks_waiting (32 * cycles) count 0 (omega arith) (omega arith)
    ∙ ap (λ (left : ℕ). next_beats left 0) all
