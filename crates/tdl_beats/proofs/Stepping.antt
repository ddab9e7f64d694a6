-- Ticks up to a target, made one after another.
use Rattle.std.proofs.Common.{◌≡◌, ℕ, ◌+◌, ◌<◌, List, [], ◌∷◌, ◌++◌, refl, ap, sym, ◌∙◌, append_assoc}
use Rattle.std.specs.Prelude.{min}
use Rattle.tdl_fraction.specs.Units.{tick_units}
use Rattle.tdl_beats.specs.Beats.{steps_to}
use Rattle.tdl_beats.specs.Fronts.{IsFront}
use Rattle.tdl_beats.specs.inside.Beating.{Stepping}
use Rattle.tdl_beats.proofs.Steps.{steps_next}

-- before the first
pub stepping_none : (place target : ℕ) → Stepping place target [] (steps_to place target)
stepping_none place target = record { both = refl }

-- after one more
pub stepping_more : {target : ℕ} {made all : List ℕ} (place next : ℕ) → Stepping place target made all → place < target
    → next ≡ min target (place + tick_units) → Stepping next target (made ++ next ∷ []) all
stepping_more {target} {made} {all} place next so_far above is = record {
  both =
      append_assoc made (next ∷ []) (steps_to next target)
      ∙ ap (λ (xs : List ℕ). made ++ xs) (sym (steps_next place target next above is))
      ∙ so_far.both;
}

-- those that were made are the first
pub stepping_front : {place target : ℕ} {made all : List ℕ} → Stepping place target made all → IsFront made all
stepping_front {place} {target} so_far = record { rest = steps_to place target; parts = sym so_far.both }
