-- The ticks of beats, one beat after another.
use Rattle.std.proofs.Common.{◌≡◌, ◌≢◌, ◌⊎◌, ℕ, ◌+◌, ◌<◌, ◌≤◌, List, [], ◌∷◌, ◌++◌, refl, inl, inr, arith}
use Rattle.std.proofs.lemmas.Bool.{cases_eq, cases_lt}
use Rattle.std.proofs.lemmas.Bool.Decides.{nat_tests}
use Rattle.std.specs.Prelude.{true, false, min}
use Rattle.tdl_beats.specs.Beats.{least_step, is_due, steps_to, ticks_from}
use Rattle.tdl_beats.proofs.Steps.{is_below, is_not_below, steps_none}

-- the goal is due, and what is far enough
pub due : (goal place target : ℕ) → (target ≡ goal) ⊎ (place + least_step ≤ target) → is_due goal place target ≡ true
due goal place target (inl is) = grind (arith, nat_tests, is)
due goal place target (inr far) = grind (arith, nat_tests, far)

-- nothing else is
pub not_due : (goal place target : ℕ) → target ≢ goal → target < place + least_step → is_due goal place target ≡ false
not_due goal place target other near = grind (arith, nat_tests, other, near)

-- what becomes of a beat with this target: it counts no more, or is due, or is passed over
pub turn : (goal place target : ℕ)
    → (goal ≤ place)
    ⊎ (((place < goal) × ((target ≡ goal) ⊎ (place + least_step ≤ target)))
    ⊎ ((place < goal) × (target ≢ goal) × (target < place + least_step)))
turn goal place target =
    elim (cases_lt place goal) [
      | inr over ↦ inl over
      | inl short ↦ elim (cases_eq target goal) [
        | inl is ↦ inr (inl (short, inl is))
        | inr other ↦ elim (cases_lt target (place + least_step)) [
          | inl near ↦ inr (inr (short, other, near))
          | inr far ↦ inr (inl (short, inr far))
        ]
      ]
    ]

-- a target that is due is above the place
pub target_above : (goal place target : ℕ) → place < goal → (target ≡ goal) ⊎ (place + least_step ≤ target) → place ≤ target
target_above goal place target short (inl is) = omega arith
target_above goal place target short (inr far) = omega arith

-- at the goal no beat counts
pub ticks_over : (goal place last : ℕ) (beats : List ℕ) → goal ≤ place → ticks_from goal place last beats ≡ []
ticks_over goal place last [] over = steps_none place (min last goal) (omega arith)
ticks_over goal place last (beat ∷ beats) over = rw (is_not_below place goal over) refl

-- a beat that is due plays up to it, or up to the goal
pub ticks_due : (goal place last beat target : ℕ) (beats : List ℕ) → place < goal → target ≡ min goal beat
    → (target ≡ goal) ⊎ (place + least_step ≤ target)
    → ticks_from goal place last (beat ∷ beats) ≡ steps_to place target ++ ticks_from goal target beat beats
ticks_due goal place last beat target beats before is far =
    let same : min beat goal ≡ target = omega arith in
    rw (is_below place goal before, same, due goal place target far) refl

-- a beat that is not due plays nothing
pub ticks_passed : (goal place last beat target : ℕ) (beats : List ℕ) → place < goal → target ≡ min goal beat
    → target ≢ goal → target < place + least_step → ticks_from goal place last (beat ∷ beats) ≡ ticks_from goal place beat beats
ticks_passed goal place last beat target beats before is other near =
    let same : min beat goal ≡ target = omega arith in
    rw (is_below place goal before, same, not_due goal place target other near) refl
