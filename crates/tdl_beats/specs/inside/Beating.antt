-- A run beside a clock, in the midst of it.
--     Stepping    on the way to a target: these ticks were made, and with those from the place on they are all
--     Beating     between two beats: the same of the ticks of a run, where the clock tells its beats
use Rattle.std.specs.Prelude.{◌≡◌, ℕ, ◌*◌, ◌<◌, ◌≤◌, List, ◌++◌, Option, Some}
use Rattle.tdl_fraction.specs.Units.{tick_units}
use Rattle.tdl_beats.specs.Beats.{steps_to, ticks_from, ticks}

pub record Stepping (place target : ℕ) (made all : List ℕ) : Type 0 where
  pub both : made ++ steps_to place target ≡ all

-- `beats` were left when the run began, and `left` now; the last beat asked for is `last`, and the last that the clock gave is `given`
pub record Beating (goal cycles : ℕ) (beats left : Option (List ℕ)) (made : List ℕ) (place last given : ℕ) : Type 0 where
  pub goal_is : goal ≡ tick_units * cycles
  pub both : (told : List ℕ) → beats ≡ Some told
      → (more : List ℕ) × (left ≡ Some more) × (made ++ ticks_from goal place last more ≡ ticks told cycles)
  pub behind : last ≤ given
  pub to_goal : place ≤ goal
  pub early : place < goal → last < goal
