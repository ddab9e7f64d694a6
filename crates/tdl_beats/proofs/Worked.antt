-- Worked beats.
use Rattle.std.proofs.Common.{◌≡◌, [], ◌∷◌, refl}
use Rattle.tdl_beats.specs.Beats.{steps_to, ticks}

-- up to two cycles: 1000 is too near, and 100000 is above the goal, up to which there are two steps
near_and_far : ticks (1000 ∷ 2000 ∷ 100000 ∷ []) 2 ≡ 2000 ∷ 48080 ∷ 92160 ∷ []
near_and_far = refl

no_beats : ticks [] 2 ≡ []
no_beats = refl

-- 1440 is not too near, nor is 2880 after it, but 4319 is; it is played at the end all the same
each_at_its_beat : ticks (1440 ∷ 2880 ∷ 4319 ∷ []) 1 ≡ 1440 ∷ 2880 ∷ 4319 ∷ []
each_at_its_beat = refl

-- where another beat follows, it is not
passed_over : ticks (1440 ∷ 2879 ∷ 2880 ∷ 10000 ∷ []) 1 ≡ 1440 ∷ 2880 ∷ 10000 ∷ []
passed_over = refl

-- beats too near, of which the last alone is played, at the end
all_near : ticks (1 ∷ 2 ∷ 3 ∷ []) 1 ≡ 3 ∷ []
all_near = refl

-- the goal is played however near
goal_is_near : ticks (46000 ∷ 46080 ∷ []) 1 ≡ 46000 ∷ 46080 ∷ []
goal_is_near = refl

-- no beat counts after the goal
past_the_goal : ticks (46000 ∷ 46081 ∷ 50000 ∷ 100000 ∷ []) 1 ≡ 46000 ∷ 46080 ∷ []
past_the_goal = refl

-- one late beat plays all cycles, one at a time
late : ticks (200000 ∷ []) 3 ≡ 46080 ∷ 92160 ∷ 138240 ∷ []
late = refl

-- the steps go by cycles from the place, and the last is shorter, or a whole one
steps : steps_to 10 92171 ≡ 46090 ∷ 92170 ∷ 92171 ∷ []
steps = refl

whole_steps : steps_to 10 92170 ≡ 46090 ∷ 92170 ∷ []
whole_steps = refl

no_steps : steps_to 10 10 ≡ []
no_steps = refl
