-- The beats that a waiting clock has left.
use Rattle.std.proofs.Common.{◌≡◌, ℕ, suc, ◌+◌, ◌-◌, ◌*◌, ◌<◌, ◌≤◌, [], ◌∷◌, ap, arith}
use Rattle.std.specs.Prelude.{Some}
use Rattle.tdl_io.specs.Sleep.{beat_units, next_beats}
use Rattle.tdl_io.specs.Told.{GaveExactly}

-- the next one, and what is left then
pub next_beat : (most given : ℕ) → given < most → next_beats (most - given) given ≡ beat_units * (given + 1) ∷ next_beats (most - (given + 1)) (given + 1)
unfolding next_beats
next_beat most given below =
    let more : most - given ≡ suc (most - (given + 1)) = omega arith in
    ap (λ (count : ℕ). next_beats count given) more

-- so it is given
pub gives_next : (most given : ℕ) → given < most
    → GaveExactly (Some (next_beats (most - given) given)) (Some (next_beats (most - (given + 1)) (given + 1))) (beat_units * (given + 1) ∷ [])
gives_next most given below = record { was = ap Some (next_beat most given below) }

-- none after the last
pub no_beat : (most given : ℕ) → most ≤ given → next_beats (most - given) given ≡ []
unfolding next_beats
no_beat most given over =
    let none : most - given ≡ 0 = omega arith in
    ap (λ (count : ℕ). next_beats count given) none
