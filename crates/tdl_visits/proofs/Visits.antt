-- How many steps the evaluator takes, exactly: the visits of a tree, by what those of its children come to.
use Rattle.std.proofs.Common.{◌≡◌, ℕ, zero, suc, ◌+◌, ◌<◌, ◌≤◌, List, [], ◌∷◌, take, drop, length, get_or, inl, inr, Result, ℤ, pos, ◌+ℤ◌}
use Rattle.std.proofs.Common.{refl, sym, ap, ◌∙◌, arith, zero-add, subst}
use Rattle.std.specs.List.{sum_by}
use Rattle.std.proofs.lemmas.List.{take_all}
use Rattle.std.proofs.lemmas.List.Sums.{sum_by-cons, sum_by_push, sum_by_more}
use Rattle.tdl_control.specs.declared.faults.NoMemory.{NoMemory}
use Rattle.tdl_control.specs.declared.leaves.Leaf.TheVariants.{Index}
use Rattle.tdl_fraction.specs.Arc.{Arc}
use Rattle.tdl_event.specs.Event.{Event}
use Rattle.tdl_expr.specs.declared.ids.NodeId.{NodeId}
use Rattle.tdl_expr.specs.declared.steps.Step.{Step as StepValue}
use Rattle.tdl_expr.specs.Tree.{Tree}
use Rattle.tdl_expr.specs.Tree as tree
use Rattle.tdl_expr.specs.Passed.{weight_sum}
use Rattle.tdl_expr.specs.Rows.{row, in_order, weighted as steps_of}
use Rattle.tdl_expr.proofs.ValidRows.{same_sum}
use Rattle.tdl_meaning.specs.Pattern.{whole_range}
use Rattle.tdl_meaning.proofs.Flat.{whole_range-append}
use Rattle.tdl_visits.specs.inside.Weights.{HavePassed}
use Rattle.tdl_visits.specs.inside.Visited.{Ask, IsVisit}
use Rattle.tdl_visits.specs.inside.Visits.{visits, visits_of, visits_of_nth, visits_of_steps, visits_at, if_met, at_index}
use Rattle.tdl_visits.proofs.Skips.{apart}

-- ---- numbers
pub in_turn : (s0 s1 s2 n m all : ℕ) → s1 ≡ s0 + n → s2 ≡ s1 + m → n + m ≡ all → s2 ≡ s0 + all
in_turn s0 s1 s2 n m all first next is = omega arith

pub for_child : (s0 s1 n m : ℕ) → s1 ≡ s0 + n → n ≡ m → s1 + 1 ≡ s0 + (1 + m)
for_child s0 s1 n m steps is = omega arith

pub one_above : (s0 s1 n m : ℕ) → s1 ≡ s0 + n → 1 + n ≡ m → s1 + 1 ≡ s0 + m
one_above s0 s1 n m steps is = omega arith

pub both_taken : (s0 s1 s2 n k m : ℕ) → s1 ≡ s0 + n → s2 ≡ s1 + k → k ≡ m → s2 + 1 ≡ s0 + (1 + n + m)
both_taken s0 s1 s2 n k m first next is = omega arith

pub all_taken : (s0 s1 left n all : ℕ) → s1 + left ≡ s0 + n → left ≡ 0 → 1 + n ≡ all → s1 + 1 ≡ s0 + all
all_taken s0 s1 left n all taken none is = omega arith

pub none_taken : (s n : ℕ) → n ≡ 0 → s ≡ s + n
none_taken s n none = omega arith

-- ---- what is said of a tree is said of one that is equal
pub of_equal : (r : Result (Unit {0}) NoMemory) (e node : Tree) → e ≡ node → (ask : Ask) (old new : List Event) (s0 s1 : ℕ)
    → IsVisit node ask r old new s0 s1 → IsVisit e ask r old new s0 s1
of_equal r e node is ask old new s0 s1 h = subst (λ t. IsVisit t ask r old new s0 s1) (sym is) h

-- ---- cycles, and events of a selector
pub one_cycle_more : (f : ℤ → ℕ) (from : ℤ) (n : ℕ) (c : ℤ) → c ≡ from +ℤ pos n → sum_by f (whole_range from n) + f c ≡ sum_by f (whole_range from (n + 1))
one_cycle_more f from n c is =
    ap (λ z. sum_by f (whole_range from n) + f z) is ∙ sym (sum_by_push f (whole_range from n) (from +ℤ pos n))
    ∙ ap (sum_by f) (sym (whole_range-append from n 1))

one_item_more : {X : Type 0} (f : X → ℕ) (xs : List X) (i : ℕ) (x : X) → i < length xs → x ≡ get_or xs i x
    → sum_by f (take i xs) + f x ≡ sum_by f (take (i + 1) xs)
one_item_more f xs i x h is = ap (λ y. sum_by f (take i xs) + f y) is ∙ sym (sum_by_more f xs i x h)

-- what the items so far take, and with one more
module _ {X : Type 0} (f : X → ℕ) (xs : List X) (i s0 s1 : ℕ) (so_far : s1 ≡ s0 + sum_by f (take i xs)) where
  pub next_taken : (x : X) (s2 : ℕ) → i < length xs → x ≡ get_or xs i x → s2 ≡ s1 + f x → s2 ≡ s0 + sum_by f (take (i + 1) xs)
  next_taken x s2 h is taken = in_turn s0 s1 s2 _ _ _ so_far taken (one_item_more f xs i x h is)

  pub each_taken : length xs ≤ i → s1 ≡ s0 + sum_by f xs
  each_taken h = so_far ∙ ap (λ ys. s0 + sum_by f ys) (take_all i xs h)

-- ---- children
module _ (trees : List Tree) (c : ℤ) (a : Arc) where
  pub visits_chosen : (ids : List NodeId) (i : ℕ) (x : NodeId) → i < length ids → x ≡ get_or ids i x
      → visits_of_nth (in_order trees ids) i c a ≡ visits (row trees x) c a
  visits_chosen ids i x h is = nth ids i x h ∙ ap (λ y. visits (row trees y) c a) (sym is)
    where
      nth : (ids : List NodeId) (i : ℕ) (d : NodeId) → i < length ids → visits_of_nth (in_order trees ids) i c a ≡ visits (row trees (get_or ids i d)) c a
      nth [] i d h = absurd (omega arith)
      nth (id ∷ ids) zero d h = refl
      nth (id ∷ ids) (suc i) d h = nth ids i d (omega arith)

  pub none_chosen : (ids : List NodeId) (i : ℕ) → length ids ≤ i → visits_of_nth (in_order trees ids) i c a ≡ 0
  none_chosen [] i h = refl
  none_chosen (id ∷ ids) zero h = absurd (omega arith)
  none_chosen (id ∷ ids) (suc i) h = none_chosen ids i (omega arith)

  visits_left : (ids : List NodeId) (i : ℕ) (d : NodeId) → i < length ids
      → visits_of (in_order trees (drop i ids)) c a ≡ visits (row trees (get_or ids i d)) c a + visits_of (in_order trees (drop (suc i) ids)) c a
  visits_left [] i d h = absurd (omega arith)
  visits_left (id ∷ ids) zero d h = refl
  visits_left (id ∷ ids) (suc i) d h = visits_left ids i d (omega arith)

  -- one more child visited
  pub child_visited : (ids : List NodeId) (i : ℕ) (d : NodeId) (s1 s2 all : ℕ) → i < length ids → s1 + visits_of (in_order trees (drop i ids)) c a ≡ all
      → s2 ≡ s1 + visits (row trees (get_or ids i d)) c a → s2 + visits_of (in_order trees (drop (i + 1) ids)) c a ≡ all
  child_visited ids i d s1 s2 all h old new =
      let next : suc i ≡ i + 1 = omega arith in
      omega (arith, old, new, visits_left ids i d h, ap (λ n. visits_of (in_order trees (drop n ids)) c a) next)

  -- ---- steps
  pub visits_of_sequence : (steps : List StepValue) (W : ℕ) → W ≡ weight_sum steps
      → 1 + visits_of_steps (steps_of trees steps) W 0 c a ≡ visits (tree.TimeCat (steps_of trees steps)) c a
  visits_of_sequence steps W total = ap (λ n. 1 + visits_of_steps (steps_of trees steps) n 0 c a) (total ∙ sym (same_sum trees steps))

  module _ (W ended begun : ℕ) (some : 0 < W) (is : HavePassed c W a ended begun) where
    -- steps that have ended where the arc begins
    pub first_unvisited : (o i : ℕ) (steps : List StepValue) → o + weight_sum (take i steps) ≤ ended
        → visits_of_steps (steps_of trees steps) W o c a ≡ visits_of_steps (steps_of trees (drop i steps)) W (o + weight_sum (take i steps)) c a
    first_unvisited o zero steps h = ap (λ n. visits_of_steps (steps_of trees steps) W n c a) (omega arith)
    first_unvisited o (suc i) [] h = refl
    first_unvisited o (suc i) (s ∷ steps) h =
        let w = s.weight in
        let sum = sum_by-cons (λ (t : StepValue). t.weight) s (take i steps) in
        let others = visits_of_steps (steps_of trees steps) W (o + w) c a in
        let none = apart c W a ended begun some is o w (inl (omega (arith, h, sum))) in
        ap (λ met. if_met (visits (row trees s.child) c) met + others) none ∙ zero-add others
        ∙ first_unvisited (o + w) i steps (omega (arith, h, sum))
        ∙ ap (λ n. visits_of_steps (steps_of trees (drop i steps)) W n c a) (omega (arith, sum))

    -- steps that begin where it has ended
    pub rest_unvisited : (o : ℕ) (steps : List StepValue) → begun ≤ o → visits_of_steps (steps_of trees steps) W o c a ≡ 0
    rest_unvisited o [] h = refl
    rest_unvisited o (s ∷ steps) h =
        let others = visits_of_steps (steps_of trees steps) W (o + s.weight) c a in
        ap (λ met. if_met (visits (row trees s.child) c) met + others) (apart c W a ended begun some is o s.weight (inr h)) ∙ zero-add others
        ∙ rest_unvisited (o + s.weight) steps (omega (arith, h))

-- ---- the child that an event of a selector chooses
module _ (trees : List Tree) (c : ℤ) (ids : List NodeId) (k : ℕ) where
  pub choice_visits : (x : NodeId) (e : Event) → k < length ids → x ≡ get_or ids k x → e.value ≡ Index k
      → visits (row trees x) c e.part ≡ visits_at (in_order trees ids) c e
  choice_visits x e h at is =
      sym (visits_chosen trees c e.part ids k x h at) ∙ ap (at_index (λ j. visits_of_nth (in_order trees ids) j c e.part)) (sym is)

  pub no_visits : (e : Event) → length ids ≤ k → e.value ≡ Index k → visits_at (in_order trees ids) c e ≡ 0
  no_visits e h is = ap (at_index (λ j. visits_of_nth (in_order trees ids) j c e.part)) is ∙ none_chosen trees c e.part ids k h
