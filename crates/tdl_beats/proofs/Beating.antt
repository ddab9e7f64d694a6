-- The ticks of a run beside a clock, made one beat after another.
use Rattle.std.proofs.Common.{◌≡◌, ◌⊎◌, ℕ, ◌+◌, ◌*◌, ◌<◌, ◌≤◌, List, [], ◌∷◌, ◌++◌, refl, ap, sym, ◌∙◌, subst, append_assoc, append-nil, arith}
use Rattle.std.specs.Prelude.{min, Option, None, Some, IfSome}
use Rattle.tdl_fraction.specs.Units.{tick_units}
use Rattle.tdl_io.specs.Told.{GaveExactly}
use Rattle.tdl_beats.specs.Beats.{least_step, steps_to, ticks_from, ticks}
use Rattle.tdl_beats.specs.Fronts.{IsFront}
use Rattle.tdl_beats.specs.inside.Beating.{Beating}
use Rattle.tdl_beats.proofs.Ticks.{ticks_due, ticks_over}

-- what a clock has left after it gave a beat
gave_next : (left rest : Option (List ℕ)) (beat : ℕ) (more : List ℕ) → GaveExactly left rest (beat ∷ []) → left ≡ Some more
    → (others : List ℕ) × (rest ≡ Some others) × (more ≡ beat ∷ others)
gave_next left None beat more gave is = absurd (none_is_some more (sym gave.was ∙ is))
  where
    none_is_some : (xs : List ℕ) → None ≡ Some xs → ⊥
    none_is_some xs e = cc
gave_next left (Some others) beat more gave is = (others, refl, inside more (beat ∷ others) (sym is ∙ gave.was))
  where
    inside : (xs ys : List ℕ) → Some xs ≡ Some ys → xs ≡ ys
    inside xs ys e = cc

-- before the first beat
pub beating_none : (goal cycles given : ℕ) (beats : Option (List ℕ)) → goal ≡ tick_units * cycles → Beating goal cycles beats beats [] 0 0 given
beating_none goal cycles given beats is = record {
  goal_is = is;
  both = λ told of. (told, of, ap (λ (to : ℕ). ticks_from to 0 0 told) is);
  behind = omega arith;
  to_goal = omega arith;
  early = λ below. below;
}

-- after a beat that is due
pub beating_due : {goal cycles last given : ℕ} {beats left : Option (List ℕ)} {made : List ℕ} (rest : Option (List ℕ)) (place target beat now : ℕ)
    → Beating goal cycles beats left made place last given → place < goal
    → GaveExactly left rest (beat ∷ []) → now ≡ beat → target ≡ min goal beat → (target ≡ goal) ⊎ (place + least_step ≤ target)
    → Beating goal cycles beats rest (made ++ steps_to place target) target beat now
beating_due {goal} {cycles} {last} {given} {beats} {left} {made} rest place target beat now so_far below gave now_is is due = record {
  goal_is = so_far.goal_is;
  both = λ told of.
      let before = so_far.both told of in
      let after = gave_next left rest beat before.0 gave before.1 in
      let on : ticks_from goal place last before.0 ≡ steps_to place target ++ ticks_from goal target beat after.0 =
      ap (ticks_from goal place last) after.2 ∙ ticks_due goal place last beat target after.0 below is due in (
        after.0,
        after.1,
        append_assoc made (steps_to place target) (ticks_from goal target beat after.0) ∙ ap (λ (xs : List ℕ). made ++ xs) (sym on) ∙ before.2,
      );
  behind = omega arith;
  to_goal = omega arith;
  early = λ short. omega arith;
}

-- a fact of all ticks, where the clock tells its beats
of_told : (beats : Option (List ℕ)) (P : List ℕ → Type 0) → ((told : List ℕ) → beats ≡ Some told → P told) → IfSome beats P
of_told None P holds = tt
of_told (Some told) P holds = holds told refl

pub told_weaker : (beats : Option (List ℕ)) (P Q : List ℕ → Type 0) → ((told : List ℕ) → P told → Q told) → IfSome beats P → IfSome beats Q
told_weaker None P Q more h = tt
told_weaker (Some told) P Q more h = more told h

-- at the goal all ticks were made
pub beating_over : {goal cycles last given : ℕ} {beats left : Option (List ℕ)} {made : List ℕ} (place : ℕ)
    → Beating goal cycles beats left made place last given → goal ≤ place → IfSome beats (λ told. made ≡ ticks told cycles)
beating_over {goal} {cycles} {last} {given} {beats} {left} {made} place so_far over = of_told beats _ (λ told of.
    let before = so_far.both told of in
    sym (append-nil made) ∙ ap (λ (xs : List ℕ). made ++ xs) (sym (ticks_over goal place last before.0 over)) ∙ before.2)

-- where the clock has ended, those up to the last beat are the rest
ended_rest : {goal cycles last given : ℕ} {beats left : Option (List ℕ)} {made : List ℕ} (place target : ℕ)
    → Beating goal cycles beats left made place last given → IfSome left (λ more. more ≡ []) → target ≡ min goal last
    → (told : List ℕ) → beats ≡ Some told → made ++ steps_to place target ≡ ticks told cycles
ended_rest {goal} {cycles} {last} {given} {beats} {left} {made} place target so_far none is told of =
    let before = so_far.both told of in
    let left_none : before.0 ≡ [] = subst (λ (xs : Option (List ℕ)). IfSome xs (λ more. more ≡ [])) before.1 none in
    let same : target ≡ min last goal = omega arith in
    ap (λ (to : ℕ). made ++ steps_to place to) same ∙ ap (λ (more : List ℕ). made ++ ticks_from goal place last more) (sym left_none) ∙ before.2

pub beating_ended : {goal cycles last given : ℕ} {beats left : Option (List ℕ)} {made : List ℕ} (place target : ℕ)
    → Beating goal cycles beats left made place last given → IfSome left (λ more. more ≡ []) → target ≡ min goal last
    → IfSome beats (λ told. made ++ steps_to place target ≡ ticks told cycles)
beating_ended {goal} {cycles} {last} {given} {beats} place target so_far none is =
    of_told beats _ (λ told of. ended_rest place target so_far none is told of)

-- ---- what was made is the front of all
pub beating_front : {goal cycles place last given : ℕ} {beats left : Option (List ℕ)} {made : List ℕ}
    → Beating goal cycles beats left made place last given → IfSome beats (λ told. IsFront made (ticks told cycles))
beating_front {goal} {cycles} {place} {last} {given} {beats} so_far = of_told beats _ (λ told of.
    let before = so_far.both told of in
    record { rest = ticks_from goal place last before.0; parts = sym before.2 })
