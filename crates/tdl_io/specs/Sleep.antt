-- A clock that waits for its beats: the multiples of 1,440 tick units up to the last cycle.
use Rattle.std.specs.Prelude.{ℕ, zero, suc, ◌+◌, ◌-◌, ◌*◌, ◌^◌, List, [], ◌∷◌}
use Rattle.tdl_io.specs.declared.sleep.SleepClock.{SleepClock}

-- so many tick units lie between two beats: 1/32 cycle
abbrev pub beat_units : ℕ
beat_units = 1440

-- so many beats there are up to the last cycle: 32 in each of 2^20 cycles
abbrev pub most_beats : ℕ
most_beats = 2 ^ 25

-- so many beats, after this many of them. It is not to be computed where all are left, some 33 million
unfoldable pub next_beats : ℕ → ℕ → List ℕ
next_beats zero given = []
next_beats (suc count) given = beat_units * (given + 1) ∷ next_beats count (given + 1)

-- the beats that are left after so many
abbrev pub left_after : ℕ → List ℕ
left_after given = next_beats (most_beats - given) given

-- how many beats it gave
abbrev pub beats_given : {T : Type 0} → SleepClock T → ℕ
beats_given clock = clock.given
