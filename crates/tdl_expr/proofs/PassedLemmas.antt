-- Where steps end among the weights.
use Rattle.std.proofs.Common.{◌≡◌, ℕ, zero, suc, ◌+◌, ◌-◌, ◌^◌, ◌<◌, ◌≤◌, true, false, leb, leb-true}
use Rattle.std.proofs.Common.{List, [], ◌∷◌, ◌++◌, length, take, get_or, refl, sym, ap, ◌∙◌, subst, arith}
use Rattle.std.specs.Prelude.{min}
use Rattle.std.specs.List.{All}
use Rattle.std.specs.List.Sorted.{IsNonDecreasingBy, IsPartitionPoint}
use Rattle.std.proofs.Math.Nat.{min-eq_left}
use Rattle.std.proofs.lemmas.Bool.{leb-false}
use Rattle.std.proofs.lemmas.List.{get_or_default}
use Rattle.std.proofs.lemmas.List.Sums.{sum_by-cons}
use Rattle.tdl_expr.specs.declared.steps.Step.{Step}
use Rattle.tdl_expr.specs.Passed.{weight_sum, HasPassed, ends_after}

pub length-ends : (before : ℕ) (steps : List Step) → length (ends_after before steps) ≡ length steps
length-ends before [] = refl
length-ends before (s ∷ steps) = ap suc (length-ends (min (before + s.weight) (2 ^ 64 - 1)) steps)

weight_cons : (s : Step) (steps : List Step) → weight_sum (s ∷ steps) ≡ s.weight + weight_sum steps
weight_cons s steps = sum_by-cons (λ (t : Step). t.weight) s steps

-- the end of a step, where 64 bits hold the sum
pub ends_at : (before : ℕ) (steps : List Step) (i : ℕ) → before + weight_sum steps < 2 ^ 64 → i < length steps
    → get_or (ends_after before steps) i 0 ≡ before + weight_sum (take (suc i) steps)
ends_at before [] i fits h = omega (arith, h)
ends_at before (s ∷ steps) zero fits h = min-eq_left (omega (arith, fits, weight_cons s steps)) ∙ omega (arith, weight_cons s [], weight_cons s (take 0 steps))
ends_at before (s ∷ steps) (suc i) fits h =
    let exact : min (before + s.weight) (2 ^ 64 - 1) ≡ before + s.weight = min-eq_left (omega (arith, fits, weight_cons s steps)) in
    ap (λ (b : ℕ). get_or (ends_after b steps) i 0) exact
    ∙ ends_at (before + s.weight) steps i (omega (arith, fits, weight_cons s steps)) (omega (arith, h)) ∙ omega (arith, weight_cons s (take (suc i) steps))

same_at_end : (x : ℕ) (xs : List ℕ) (d e : ℕ) → get_or (x ∷ xs) (length xs) d ≡ get_or (x ∷ xs) (length xs) e
same_at_end x [] d e = refl
same_at_end x (y ∷ xs) d e = same_at_end y xs d e

after_first : (x : ℕ) (xs : List ℕ) (d : ℕ) → get_or (x ∷ xs) (length xs) d ≡ get_or xs (length xs - 1) x
after_first x [] d = refl
after_first x (y ∷ xs) d =
    let last : length xs ≡ suc (length xs) - 1 = omega arith in
    same_at_end y xs d x ∙ ap (λ (n : ℕ). get_or (y ∷ xs) n x) last

-- where one more step ends
pub ends_push : (before : ℕ) (steps : List Step) (s : Step) → ends_after before (steps ++ s ∷ [])
    ≡ ends_after before steps ++ min (get_or (ends_after before steps) (length (ends_after before steps) - 1) before + s.weight) (2 ^ 64 - 1) ∷ []
ends_push before [] s = refl
ends_push before (t ∷ steps) s =
    let end = min (before + t.weight) (2 ^ 64 - 1) in
    let ends = ends_after end steps in
    let last : length ends ≡ suc (length ends) - 1 = omega arith in
    ap (λ (es : List ℕ). end ∷ es)
    (ends_push end steps s
    ∙ ap (λ (n : ℕ). ends ++ min (n + s.weight) (2 ^ 64 - 1) ∷ [])
    (sym (after_first end ends before) ∙ ap (λ (n : ℕ). get_or (end ∷ ends) n before) last))

-- the end of a step of the whole list
pub end_of : (steps : List Step) (i d : ℕ) → weight_sum steps < 2 ^ 64 → i < length steps → get_or (ends_after 0 steps) i d ≡ weight_sum (take (suc i) steps)
end_of steps i d fits h = get_or_default (ends_after 0 steps) i d 0 (subst (λ (n : ℕ). i < n) (sym (length-ends 0 steps)) h)
    ∙ ends_at 0 steps i (omega (arith, fits)) h ∙ omega arith

-- the more steps, the more weight
pub weight_rises : (steps : List Step) (i j : ℕ) → i ≤ j → weight_sum (take i steps) ≤ weight_sum (take j steps)
weight_rises [] i j h = omega (arith, none i, none j)
  where
    none : (k : ℕ) → weight_sum (take k []) ≡ 0
    none zero = refl
    none (suc k) = refl
weight_rises (s ∷ steps) zero j h = omega arith
weight_rises (s ∷ steps) (suc i) zero h = omega (arith, h)
weight_rises (s ∷ steps) (suc i) (suc j) h =
    omega (arith, weight_rises steps i j (omega (arith, h)), weight_cons s (take i steps), weight_cons s (take j steps))

pub ends_rise : (steps : List Step) → weight_sum steps < 2 ^ 64 → IsNonDecreasingBy (λ (n : ℕ). n) (ends_after 0 steps)
ends_rise steps fits i j d le h =
    let last : j < length steps = subst (λ (n : ℕ). j < n) (length-ends 0 steps) h in
    let first : i < length steps = omega (arith, le, last) in
    rw (end_of steps i d fits first, end_of steps j d fits last) (weight_rises steps (suc i) (suc j) (omega (arith, le)))

-- where the ends are cut in two by a weight, so many steps have passed
pub passed_of_point : (steps : List Step) (weight count : ℕ) → weight_sum steps < 2 ^ 64
    → IsPartitionPoint (λ (n : ℕ). leb n weight ≡ true) (λ (n : ℕ). leb n weight ≡ false) (ends_after 0 steps) count
    → count ≤ length (ends_after 0 steps) → HasPassed steps weight count
passed_of_point steps weight count fits point within = record {
  within = subst (λ (n : ℕ). count ≤ n) (length-ends 0 steps) within;
  ended = ended count within point;
  next = λ h. subst (λ (n : ℕ). weight < n) (end_of steps count 0 fits h)
      (leb-false _ _ (point.1 count 0 (omega arith) (subst (λ (n : ℕ). count < n) (sym (length-ends 0 steps)) h)));
}
  where
    ended : (count : ℕ) → count ≤ length (ends_after 0 steps)
        → IsPartitionPoint (λ (n : ℕ). leb n weight ≡ true) (λ (n : ℕ). leb n weight ≡ false) (ends_after 0 steps) count
        → weight_sum (take count steps) ≤ weight
    ended zero within point = omega arith
    ended (suc k) within point =
        let row : k < length steps = subst (λ (n : ℕ). k < n) (length-ends 0 steps) within in
        subst (λ (n : ℕ). n ≤ weight) (end_of steps k 0 fits row) (leb-true _ _ (point.0 k 0 (omega arith) (omega arith)))

-- where each weight is 1
pub even_sum : (steps : List Step) (count : ℕ) → All (λ s. s.weight ≡ 1) steps → count ≤ length steps → weight_sum (take count steps) ≡ count
even_sum steps zero even within = refl
even_sum [] (suc count) even within = omega (arith, within)
even_sum (s ∷ steps) (suc count) even within =
    let first : s.weight ≡ 1 = even 0 s (omega arith) in
    let rest = even_sum steps count (λ k d below. even (suc k) d (omega (arith, below))) (omega (arith, within)) in
    omega (arith, weight_cons s (take count steps), first, rest)

pub passed_of_even : (steps : List Step) (weight : ℕ) → All (λ s. s.weight ≡ 1) steps → HasPassed steps weight (min weight (length steps))
passed_of_even steps weight even = record {
  within = omega arith;
  ended = omega (arith, even_sum steps (min weight (length steps)) even (omega arith));
  next = λ h. omega (arith, h, even_sum steps (suc (min weight (length steps))) even (omega (arith, h)));
}
