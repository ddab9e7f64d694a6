-- Ticks up to a target.
use Rattle.std.proofs.Common.{◌≡◌, ℕ, suc, ◌+◌, ◌-◌, ◌/◌, ◌<◌, ◌≤◌, [], ◌∷◌, refl, inl, inr, arith}
use Rattle.std.proofs.lemmas.Bool.{cases_lt}
use Rattle.std.proofs.lemmas.Bool.Decides.{nat_tests}
use Rattle.std.specs.Prelude.{true, false, nat_lt, min}
use Rattle.tdl_fraction.specs.Units.{tick_units}
use Rattle.tdl_beats.specs.Beats.{steps_to}

pub is_below : (a b : ℕ) → a < b → nat_lt a b ≡ true
is_below a b below = grind (arith, nat_tests, below)

pub is_not_below : (a b : ℕ) → b ≤ a → nat_lt a b ≡ false
is_not_below a b from = grind (arith, nat_tests, from)

-- a target that is not above the place adds none
pub steps_none : (place target : ℕ) → target ≤ place → steps_to place target ≡ []
steps_none place target from = rw (is_not_below place target from) refl

-- a target within a cycle is the one tick
pub steps_near : (place target : ℕ) → place < target → target ≤ place + tick_units → steps_to place target ≡ target ∷ []
steps_near place target above near =
    let none : (target - place - 1) / tick_units ≡ 0 = omega arith in
    rw (is_below place target above, none) refl

-- to one that is farther the first tick is a cycle away
pub steps_far : (place target : ℕ) → place + tick_units < target
    → steps_to place target ≡ (place + tick_units) ∷ steps_to (place + tick_units) target
steps_far place target far =
    let above : place < target = omega arith in
    let more : (target - place - 1) / tick_units ≡ suc ((target - (place + tick_units) - 1) / tick_units) = omega arith in
    rw (is_below place target above, more, is_below (place + tick_units) target far) refl

-- the first tick is the target, or a cycle away
pub steps_next : (place target next : ℕ) → place < target → next ≡ min target (place + tick_units) → steps_to place target ≡ next ∷ steps_to next target
steps_next place target next above is =
    elim (cases_lt (place + tick_units) target) [
      | inl far ↦
          let same : next ≡ place + tick_units = omega arith in
          rw same (steps_far place target far)
      | inr near ↦
          let same : next ≡ target = omega arith in
          let last : steps_to target target ≡ [] = steps_none target target (omega arith) in
          rw (same, last) (steps_near place target above near)
    ]
