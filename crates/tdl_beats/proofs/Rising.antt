-- Ticks rise, and come to the goal.
use Rattle.std.proofs.Common.{◌≡◌, ◌⊎◌, ℕ, zero, suc, ◌+◌, ◌-◌, ◌*◌, ◌/◌, ◌<◌, ◌≤◌, List, [], ◌∷◌, ◌++◌, refl, ap, inl, inr, ◌∙◌, arith}
use Rattle.std.proofs.lemmas.Bool.{and_parts, cases_lt, ltb-true}
use Rattle.std.specs.Prelude.{min, nat_lt, true}
use Rattle.tdl_fraction.specs.Units.{tick_units}
use Rattle.tdl_io.specs.Memory.{rise_above}
use Rattle.tdl_beats.specs.Beats.{least_step, steps_from, steps_to, ticks_from}
use Rattle.tdl_beats.specs.Rising.{reached, RiseByCycles}
use Rattle.tdl_beats.proofs.Steps.{is_below, steps_none}
use Rattle.tdl_beats.proofs.Ticks.{turn, target_above, ticks_due, ticks_over, ticks_passed}

-- ---- lists that rise
pub rise_both : (place : ℕ) (xs ys : List ℕ) → RiseByCycles place xs → RiseByCycles (reached place xs) ys → RiseByCycles place (xs ++ ys)
rise_both place [] ys first second = second
rise_both place (x ∷ xs) ys first second = (first.0, first.1, rise_both x xs ys first.2 second)

pub reached_both : (place : ℕ) (xs ys : List ℕ) → reached place (xs ++ ys) ≡ reached (reached place xs) ys
reached_both place [] ys = refl
reached_both place (x ∷ xs) ys = reached_both x xs ys

-- ---- up to a target
steps_from_rise : (count place target : ℕ) → place + count * tick_units < target → target ≤ place + (count + 1) * tick_units
    → RiseByCycles place (steps_from count place target)
steps_from_rise zero place target far near = (omega arith, omega arith, tt)
steps_from_rise (suc count) place target far near =
    (omega arith, omega arith, steps_from_rise count (place + tick_units) target (omega arith) (omega arith))

steps_from_reach : (count place target : ℕ) → reached place (steps_from count place target) ≡ target
steps_from_reach zero place target = refl
steps_from_reach (suc count) place target = steps_from_reach count (place + tick_units) target

pub steps_rise : (place target : ℕ) → RiseByCycles place (steps_to place target)
steps_rise place target =
    elim (cases_lt place target) [
      | inl above ↦ rw (is_below place target above) (steps_from_rise ((target - place - 1) / tick_units) place target (omega arith) (omega arith))
      | inr from ↦ rw (steps_none place target from) tt
    ]

pub steps_reach : (place target : ℕ) → place ≤ target → reached place (steps_to place target) ≡ target
steps_reach place target from =
    elim (cases_lt place target) [
      | inl above ↦ rw (is_below place target above) (steps_from_reach ((target - place - 1) / tick_units) place target)
      | inr none ↦ rw (steps_none place target none) (omega arith)
    ]

-- ---- by beats
-- ticks rise
pub ticks_rise : (goal place last : ℕ) (beats : List ℕ) → RiseByCycles place (ticks_from goal place last beats)
ticks_rise goal place last [] = steps_rise place (min last goal)
ticks_rise goal place last (beat ∷ beats) =
    let target : ℕ = min goal beat in
    elim (turn goal place target) [
      | inl over ↦ rw (ticks_over goal place last (beat ∷ beats) over) tt
      | inr (inl due) ↦
          let to : reached place (steps_to place target) ≡ target = steps_reach place target (target_above goal place target due.0 due.1) in
          rw (ticks_due goal place last beat target beats due.0 refl due.1)
          (rise_both place (steps_to place target) (ticks_from goal target beat beats) (steps_rise place target) (rw to (ticks_rise goal target beat beats)))
      | inr (inr near) ↦ rw (ticks_passed goal place last beat target beats near.0 refl near.1 near.2) (ticks_rise goal place beat beats)
    ]

-- where a beat is due, they go on from its target
pub reached_due : (goal place last beat target : ℕ) (beats : List ℕ) → place < goal → target ≡ min goal beat
    → (target ≡ goal) ⊎ (place + least_step ≤ target)
    → reached place (ticks_from goal place last (beat ∷ beats)) ≡ reached target (ticks_from goal target beat beats)
reached_due goal place last beat target beats before is far =
    let to : reached place (steps_to place target) ≡ target = steps_reach place target (target_above goal place target before far) in
    ap (reached place) (ticks_due goal place last beat target beats before is far)
    ∙ reached_both place (steps_to place target) (ticks_from goal target beat beats)
    ∙ ap (λ (from : ℕ). reached from (ticks_from goal target beat beats)) to

-- and stop at the goal
pub ticks_within : (goal place last : ℕ) (beats : List ℕ) → place ≤ goal → reached place (ticks_from goal place last beats) ≤ goal
ticks_within goal place last [] within =
    elim (cases_lt place (min last goal)) [
      | inl above ↦ let to = steps_reach place (min last goal) (omega arith) in omega arith
      | inr none ↦ rw (steps_none place (min last goal) none) within
    ]
ticks_within goal place last (beat ∷ beats) within =
    let target : ℕ = min goal beat in
    elim (turn goal place target) [
      | inl over ↦ rw (ticks_over goal place last (beat ∷ beats) over) within
      | inr (inl due) ↦ rw (reached_due goal place last beat target beats due.0 refl due.1) (ticks_within goal target beat beats (omega arith))
      | inr (inr near) ↦ rw (ticks_passed goal place last beat target beats near.0 refl near.1 near.2) (ticks_within goal place beat beats within)
    ]

-- to which they come where a beat does
pub ticks_reach_goal : (goal place last : ℕ) (before : List ℕ) (beat : ℕ) (after : List ℕ) → place ≤ goal → goal ≤ beat
    → reached place (ticks_from goal place last (before ++ beat ∷ after)) ≡ goal
ticks_reach_goal goal place last [] beat after within past =
    let target : ℕ = min goal beat in
    let same : target ≡ goal = omega arith in
    elim (cases_lt place goal) [
      | inl short ↦
          let on : ticks_from goal target beat after ≡ [] = ticks_over goal target beat after (omega arith) in
          reached_due goal place last beat target after short refl (inl same) ∙ ap (reached target) on ∙ same
      | inr over ↦ rw (ticks_over goal place last (beat ∷ after) over) (omega arith)
    ]
ticks_reach_goal goal place last (first ∷ before) beat after within past =
    let target : ℕ = min goal first in
    elim (turn goal place target) [
      | inl over ↦ rw (ticks_over goal place last (first ∷ (before ++ beat ∷ after)) over) (omega arith)
      | inr (inl due) ↦
          reached_due goal place last first target (before ++ beat ∷ after) due.0 refl due.1
          ∙ ticks_reach_goal goal target first before beat after (omega arith) past
      | inr (inr near) ↦
          rw (ticks_passed goal place last first target (before ++ beat ∷ after) near.0 refl near.1 near.2)
          (ticks_reach_goal goal place first before beat after within past)
    ]

-- ---- by beats that rise
rise_and : (last beat : ℕ) (beats : List ℕ) → rise_above last (beat ∷ beats) ≡ true → (last < beat) × (rise_above beat beats ≡ true)
rise_and last beat beats rising =
    let parts = and_parts (nat_lt last beat) (rise_above beat beats) rising in
    (ltb-true last beat parts.0, parts.1)

-- beats that rise stay above
last_from : (last : ℕ) (beats : List ℕ) → rise_above last beats ≡ true → last ≤ reached last beats
last_from last [] rising = omega arith
last_from last (beat ∷ beats) rising =
    let parts = rise_and last beat beats rising in
    let on = last_from beat beats parts.1 in
    omega arith

-- ticks come to the last beat, or to the goal
pub ticks_reach_last : (goal place last : ℕ) (beats : List ℕ) → place ≤ min last goal → rise_above last beats ≡ true
    → reached place (ticks_from goal place last beats) ≡ min (reached last beats) goal
ticks_reach_last goal place last [] from rising = steps_reach place (min last goal) from
ticks_reach_last goal place last (beat ∷ beats) from rising =
    let target : ℕ = min goal beat in
    let parts = rise_and last beat beats rising in
    elim (turn goal place target) [
      | inl over ↦
          let above = last_from last (beat ∷ beats) rising in
          rw (ticks_over goal place last (beat ∷ beats) over) (omega arith)
      | inr (inl due) ↦
          reached_due goal place last beat target beats due.0 refl due.1 ∙ ticks_reach_last goal target beat beats (omega arith) parts.1
      | inr (inr near) ↦
          rw (ticks_passed goal place last beat target beats near.0 refl near.1 near.2)
          (ticks_reach_last goal place beat beats (omega arith) parts.1)
    ]
