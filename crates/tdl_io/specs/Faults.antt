-- The count of a device's faults, before a call and after it.
use Rattle.std.specs.Prelude.{◌≡◌, ℕ, ◌-◌, ◌^◌, ◌<◌, ◌≤◌, ◌⊎◌, min, ◌+◌, Result, IsErr, MatchResult}

-- the largest number that a `u64` holds
abbrev pub last_count : ℕ
last_count = 2 ^ 64 - 1

-- the count after one more fault: it stays at its last value
abbrev pub one_more : ℕ → ℕ
one_more count = min (count + 1) last_count

-- the count rose, or stands at its last value; in no case did it fall
pub record CountRose (old new : ℕ) : Type 0 where
  pub kept : old ≤ new
  pub rose : (old < new) ⊎ (new ≡ last_count)

-- the count never falls, and the call failed only where it rose
pub record HasCause {A E : Type 0} (old new : ℕ) (result : Result A E) : Type 0 where
  pub kept : old ≤ new
  pub failed : IsErr result → CountRose old new

-- the count took one more fault where the call failed, and stayed where it did not
abbrev pub CountsFault : {A E : Type 0} → ℕ → ℕ → Result A E → Type 0
CountsFault old new result = MatchResult result (λ _. new ≡ old) (λ _. new ≡ one_more old)
