-- The steps of a sequence, one after another: what is known at each, and what is made of their answers.
use Rattle.std.proofs.Common.{◌≡◌, ℕ, zero, suc, ◌+◌, ◌<◌, ◌≤◌, List, [], ◌∷◌}
use Rattle.std.proofs.Common.{◌++◌, map, take, drop, length, get_or, inl, ℤ}
use Rattle.std.proofs.Common.{◌^◌, refl, sym, ap, ◌∙◌, subst, arith, append-nil}
use Rattle.std.specs.List.{sum_by}
use Rattle.std.proofs.lemmas.List.Sums.{sum_by-cons}
use Rattle.std.proofs.lemmas.List.{append_assoc, drop_all}
use Rattle.tdl_fraction.specs.Range.{InRange}
use Rattle.tdl_fraction.specs.Arc.{Arc}
use Rattle.tdl_event.specs.Event.{Event}
use Rattle.tdl_expr.specs.declared.steps.Step.{Step as StepValue}
use Rattle.tdl_expr.specs.Tree.{Tree}
use Rattle.tdl_expr.specs.Tree as tree
use Rattle.tdl_expr.specs.Rows.{row, weighted as steps_of}
use Rattle.tdl_expr.specs.Passed.{weight_sum}
use Rattle.tdl_meaning.specs.Pattern.{Share, over, moved, squeezed}
use Rattle.tdl_meaning.specs.Meaning.{cyc, weighted as shares_of}
use Rattle.tdl_meaning.specs.Proper.{Each}
use Rattle.tdl_meaning.specs.Ranges.{HasEnds}
use Rattle.tdl_meaning.specs.inside.Arcs.{over_met, step_ask, steps_over}
use Rattle.tdl_meaning.specs.inside.Children.{rows_needed}
use Rattle.tdl_meaning.proofs.Proper.{propers_of_steps}
use Rattle.tdl_meaning.proofs.ByKind.{over-time_cat}
use Rattle.tdl_meaning.proofs.PlainLemmas.{step_row_at, weights_more, total-weights}
use Rattle.tdl_visits.specs.inside.Weights.{HavePassed}
use Rattle.tdl_visits.specs.inside.Visits.{visits, visits_of_steps, if_met}
use Rattle.tdl_visits.specs.inside.Visited.{Ask, MayVisit}
use Rattle.tdl_visits.proofs.Skips.{apart, none_after}

pub time_cat_over : (trees : List Tree) (steps : List StepValue) (ask : Ask) (W : ℕ) → W ≡ sum_by (λ (s : StepValue). s.weight) steps
    → MayVisit (tree.TimeCat (steps_of trees steps)) ask
    → steps_over W 0 (shares_of (steps_of trees steps)) ask.cycle ask.arc ≡ over (cyc (tree.TimeCat (steps_of trees steps))) ask.arc
time_cat_over trees steps ask W e visit =
    ap (λ w. steps_over w 0 (shares_of (steps_of trees steps)) ask.cycle ask.arc) (e ∙ sym (total-weights trees steps))
    ∙ sym (over-time_cat (shares_of (steps_of trees steps)) (propers_of_steps (steps_of trees steps) visit.may.room.valid.1) ask.cycle ask.arc
    visit.may.asked.is_arc visit.inside)

rest_at : (trees : List Tree) (steps : List StepValue) (i : ℕ) (d : StepValue) → i < length steps
    → steps_of trees (drop i steps) ≡ tree.step (get_or steps i d).weight (row trees (get_or steps i d).child) (steps_of trees (drop (suc i) steps))
rest_at trees [] i d h = absurd (omega arith)
rest_at trees (x ∷ steps) zero d h = refl
rest_at trees (x ∷ steps) (suc i) d h = rest_at trees steps i d (omega arith)

-- of the items in the middle of a list
each_between : {X : Type 0} (P : X → Type 0) (xs ys zs : List X) → Each P (xs ++ (ys ++ zs)) → Each P ys
each_between P [] [] zs h = tt
each_between P [] (y ∷ ys) zs h = (h.0, each_between P [] ys zs h.1)
each_between P (x ∷ xs) ys zs h = each_between P xs ys zs h.1

-- steps that have ended where the arc begins give nothing
pub first_skipped : (c : ℤ) (W : ℕ) (a : Arc) (ended begun : ℕ) → 0 < W → HavePassed c W a ended begun
    → (trees : List Tree) (o i : ℕ) (steps : List StepValue) → o + weight_sum (take i steps) ≤ ended
    → steps_over W o (shares_of (steps_of trees steps)) c a ≡ steps_over W (o + weight_sum (take i steps)) (shares_of (steps_of trees (drop i steps))) c a
first_skipped c W a ended begun total is trees o zero steps h = ap (λ n. steps_over W n (shares_of (steps_of trees steps)) c a) (omega arith)
first_skipped c W a ended begun total is trees o (suc i) [] h = refl
first_skipped c W a ended begun total is trees o (suc i) (s ∷ steps) h =
    let w = s.weight in
    let sum = sum_by-cons (λ (t : StepValue). t.weight) s (take i steps) in
    let p = cyc (row trees s.child) in
    let others = shares_of (steps_of trees steps) in
    let none = apart c W a ended begun total is o w (inl (omega (arith, h, sum))) in
    ap (λ met. map (moved (squeezed c o w W)) (over_met p met) ++ steps_over W (o + w) others c a) none
    ∙ first_skipped c W a ended begun total is trees (o + w) i steps (omega (arith, h, sum))
    ∙ ap (λ n. steps_over W n (shares_of (steps_of trees (drop i steps))) c a) (omega (arith, sum))

module _ (trees : List Tree) (steps : List StepValue) (i : ℕ) (s : StepValue) (within : i < length steps) (at : s ≡ get_or steps i s) where
  rest_of : steps_of trees (drop i steps) ≡ tree.step s.weight (row trees s.child) (steps_of trees (drop (i + 1) steps))
  rest_of =
      let next : suc i ≡ i + 1 = omega arith in
      rest_at trees steps i s within ∙ ap (λ (x : StepValue). tree.step x.weight (row trees x.child) (steps_of trees (drop (suc i) steps))) (sym at)
      ∙ ap (λ n. tree.step s.weight (row trees s.child) (steps_of trees (drop n steps))) next

  pub before_more : (W o : ℕ) → o + weight_sum (drop i steps) ≡ W → o + s.weight + weight_sum (drop (i + 1) steps) ≡ W
  before_more W o sum =
      subst (λ (x : StepValue). o + x.weight + weight_sum (drop (i + 1) steps) ≡ W) (sym at) (weights_more trees steps i s within W o sum)

  pub row_below : s.child.index + 1 ≤ rows_needed (map (λ (x : StepValue). x.child) steps)
  row_below = subst (λ (x : StepValue). x.child.index + 1 ≤ rows_needed (map (λ (y : StepValue). y.child) steps)) (sym at) (step_row_at steps i s within)

  -- with one step more done, the steps that are left give what is left
  pub steps_more : (W o : ℕ) (c : ℤ) (a : Arc) (out out' all : List Event)
      → out' ≡ out ++ map (moved (squeezed c o s.weight W)) (over_met (cyc (row trees s.child)) (step_ask c o s.weight W a))
      → out ++ steps_over W o (shares_of (steps_of trees (drop i steps))) c a ≡ all
      → out' ++ steps_over W (o + s.weight) (shares_of (steps_of trees (drop (i + 1) steps))) c a ≡ all
  steps_more W o c a out out' all new old =
      let one = map (moved (squeezed c o s.weight W)) (over_met (cyc (row trees s.child)) (step_ask c o s.weight W a)) in
      let others = steps_over W (o + s.weight) (shares_of (steps_of trees (drop (i + 1) steps))) c a in
      let before = ap (λ ss. out ++ steps_over W o (shares_of ss) c a) (sym rest_of) ∙ old in
      ap (λ front. front ++ others) new ∙ append_assoc out one others ∙ before

  -- and take what is left of the visits
  pub step_visited : (W o : ℕ) (c : ℤ) (a : Arc) (s1 s2 all : ℕ)
      → s2 ≡ s1 + if_met (visits (row trees s.child) c) (step_ask c o s.weight W a)
      → s1 + visits_of_steps (steps_of trees (drop i steps)) W o c a ≡ all
      → s2 + visits_of_steps (steps_of trees (drop (i + 1) steps)) W (o + s.weight) c a ≡ all
  step_visited W o c a s1 s2 all new old =
      let left = ap (λ ss. visits_of_steps ss W o c a) rest_of in
      omega (arith, new, old, left)

  -- what the step gives is in range, as all that its sequence gives is
  pub step_in_range : (W o : ℕ) (c : ℤ) (a : Arc) (out all : List Event) → Each (HasEnds InRange) all
      → out ++ steps_over W o (shares_of (steps_of trees (drop i steps))) c a ≡ all
      → Each (HasEnds InRange) (map (moved (squeezed c o s.weight W)) (over_met (cyc (row trees s.child)) (step_ask c o s.weight W a)))
  step_in_range W o c a out all fits is =
      let one = map (moved (squeezed c o s.weight W)) (over_met (cyc (row trees s.child)) (step_ask c o s.weight W a)) in
      let others = steps_over W (o + s.weight) (shares_of (steps_of trees (drop (i + 1) steps))) c a in
      let now = ap (λ ss. out ++ steps_over W o (shares_of ss) c a) (sym rest_of) ∙ is in
      each_between (HasEnds InRange) out one others (subst (Each (HasEnds InRange)) (sym now) fits)

-- what holds at a step, before which weights o have passed
pub record AtStep (steps : List StepValue) (s : StepValue) (W o : ℕ) : Type 0 where
  pub few : W ≤ 2 ^ 40
  pub fits : o + s.weight ≤ W
  pub below : s.child.index + 1 ≤ rows_needed (map (λ (x : StepValue). x.child) steps)

pub at_step : (trees : List Tree) (steps : List StepValue) (W : ℕ) → W ≡ weight_sum steps → weight_sum steps ≤ 2 ^ 40 → (i : ℕ) (s : StepValue)
    → i < length steps → s ≡ get_or steps i s → (o : ℕ) → o + weight_sum (drop i steps) ≡ W → AtStep steps s W o
at_step trees steps W total most i s within at o left = record {
  few = omega (arith, total, most);
  fits = omega (arith, before_more trees steps i s within at W o left);
  below = row_below trees steps i s within at;
}

pub steps_done : (trees : List Tree) (steps : List StepValue) (i : ℕ) (W o : ℕ) (c : ℤ) (a : Arc) (out all : List Event) → length steps ≤ i
    → out ++ steps_over W o (shares_of (steps_of trees (drop i steps))) c a ≡ all → out ≡ all
steps_done trees steps i W o c a out all h e =
    let none = drop_all i steps h in
    sym (append-nil out) ∙ ap (λ ss. out ++ steps_over W o (shares_of (steps_of trees ss)) c a) (sym none) ∙ e

pub rest_skipped : (c : ℤ) (W : ℕ) (a : Arc) (ended begun : ℕ) → 0 < W → HavePassed c W a ended begun
    → (o : ℕ) (steps : List Share) (out all : List Event) → begun ≤ o → out ++ steps_over W o steps c a ≡ all → out ≡ all
rest_skipped c W a ended begun total is o steps out all h e =
    sym (append-nil out) ∙ ap (λ es. out ++ es) (sym (none_after c W a ended begun total is o steps h)) ∙ e
