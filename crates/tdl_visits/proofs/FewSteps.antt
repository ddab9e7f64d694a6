-- How many steps the evaluator takes: those of children add up to no more than the load of their node.
use Rattle.std.proofs.Common.{◌≡◌, ℕ, zero, suc, ◌+◌, ◌*◌, ◌<◌, ◌≤◌, max, List, [], ◌∷◌, drop, length, get_or, ℤ, pos, sym, ap, subst, arith, refl}
use Rattle.std.proofs.Math.Nat.{suc-mul, mul-le-mul_right}
use Rattle.tdl_fraction.specs.Rational.{Rational, whole, ◌*ℚ◌, ◌<ℚ◌}
use Rattle.tdl_fraction.specs.Arc.{Arc, IsArc, IsInside, map_arc}
use Rattle.tdl_expr.specs.declared.ids.NodeId.{NodeId}
use Rattle.tdl_expr.specs.declared.steps.Step.{Step as StepValue}
use Rattle.tdl_expr.specs.Tree.{Tree}
use Rattle.tdl_expr.specs.Rows.{row, in_order, weighted as steps_of}
use Rattle.tdl_expr.specs.Bounds.{bounds, bounds_of, bounds_of_steps, loads, touched}
use Rattle.tdl_meaning.specs.Pattern.{cycle_arc, cycles_of}
use Rattle.tdl_meaning.proofs.Counts.{arc_touches}

abbrev pub load : Tree → ℕ
load e = (bounds e).load

-- ---- the same load again and again
pub once_more : (s0 k l s1 s2 : ℕ) → s1 ≤ s0 + k * l → s2 ≤ s1 + l → s2 ≤ s0 + (k + 1) * l
once_more s0 k l s1 s2 h new =
    let next : suc k * l ≡ (k + 1) * l = ap (λ n. n * l) (one k) in
    omega (arith, h, new, suc-mul k l, next)
  where
    one : (k : ℕ) → suc k ≡ k + 1
    one k = omega arith

pub no_more : (s0 k n l s : ℕ) → s ≤ s0 + k * l → k ≤ n → s ≤ s0 + n * l
no_more s0 k n l s h le = omega (arith, h, mul-le-mul_right l le)

pub at_rate : (r : Rational) (c : ℤ) (a ask : Arc) (l s0 s1 : ℕ) → whole (pos 0) <ℚ r → IsArc a → IsInside a (cycle_arc c) → ask ≡ map_arc (λ t. t *ℚ r) a
    → s1 ≤ s0 + length (cycles_of ask) * l → s1 + 1 ≤ s0 + (1 + touched r * l)
at_rate r c a ask l s0 s1 positive h inside is few =
    let touches = subst (λ b. length (cycles_of b) ≤ touched r) (sym is) (arc_touches r positive c a h inside) in
    omega (arith, few, mul-le-mul_right l touches)

pub of_choices : (n k load0 l s0 s1 s2 : ℕ) → n ≤ k → s1 ≤ s0 + load0 → s2 ≤ s1 + n * l → s2 + 1 ≤ s0 + (1 + load0 + max 1 k * l)
of_choices n k load0 l s0 s1 s2 le first rest =
    let most : n ≤ max 1 k = omega (arith, le) in
    omega (arith, first, rest, mul-le-mul_right l most)

-- ---- children
pub child_load : (trees : List Tree) (ids : List NodeId) (i : ℕ) (d : NodeId) → i < length ids
    → load (row trees (get_or ids i d)) ≤ loads (bounds_of (in_order trees ids))
child_load trees [] i d h = absurd (omega arith)
child_load trees (id ∷ ids) zero d h = omega arith
child_load trees (id ∷ ids) (suc i) d h = omega (arith, child_load trees ids i d (omega arith))

pub load_of : (trees : List Tree) (ids : List NodeId) (i : ℕ) (x : NodeId) → i < length ids → x ≡ get_or ids i x
    → load (row trees x) ≤ loads (bounds_of (in_order trees ids))
load_of trees ids i x h is = subst (λ y. load (row trees y) ≤ loads (bounds_of (in_order trees ids))) (sym is) (child_load trees ids i x h)

pub loads_left : (trees : List Tree) (ids : List NodeId) (i : ℕ) (d : NodeId) → i < length ids → loads (bounds_of (in_order trees (drop i ids)))
    ≡ load (row trees (get_or ids i d)) + loads (bounds_of (in_order trees (drop (suc i) ids)))
loads_left trees [] i d h = absurd (omega arith)
loads_left trees (id ∷ ids) zero d h = refl
loads_left trees (id ∷ ids) (suc i) d h = loads_left trees ids i d (omega arith)

pub step_loads_left : (trees : List Tree) (steps : List StepValue) (i : ℕ) (d : StepValue) → i < length steps
    → loads (bounds_of_steps (steps_of trees (drop i steps)))
    ≡ load (row trees (get_or steps i d).child) + loads (bounds_of_steps (steps_of trees (drop (suc i) steps)))
step_loads_left trees [] i d h = absurd (omega arith)
step_loads_left trees (s ∷ steps) zero d h = refl
step_loads_left trees (s ∷ steps) (suc i) d h = step_loads_left trees steps i d (omega arith)

-- steps that are skipped cost nothing
pub fewer_loads : (trees : List Tree) (i : ℕ) (steps : List StepValue)
    → loads (bounds_of_steps (steps_of trees (drop i steps))) ≤ loads (bounds_of_steps (steps_of trees steps))
fewer_loads trees zero steps = omega arith
fewer_loads trees (suc i) [] = omega arith
fewer_loads trees (suc i) (s ∷ steps) = omega (arith, fewer_loads trees i steps)

-- one more child done, of those whose loads are within what all have
module _ (trees : List Tree) (i : ℕ) (s0 s1 s2 all : ℕ) where
  pub child_more : (ids : List NodeId) (d : NodeId) → i < length ids → s1 + loads (bounds_of (in_order trees (drop i ids))) ≤ s0 + all
      → s2 ≤ s1 + load (row trees (get_or ids i d)) → s2 + loads (bounds_of (in_order trees (drop (i + 1) ids))) ≤ s0 + all
  child_more ids d h old new =
      let next : suc i ≡ i + 1 = omega arith in
      omega (arith, old, new, loads_left trees ids i d h, ap (λ n. loads (bounds_of (in_order trees (drop n ids)))) next)

  pub step_more : (steps : List StepValue) (s : StepValue) → i < length steps → s ≡ get_or steps i s
      → s1 + loads (bounds_of_steps (steps_of trees (drop i steps))) ≤ s0 + all
      → s2 ≤ s1 + load (row trees s.child) → s2 + loads (bounds_of_steps (steps_of trees (drop (i + 1) steps))) ≤ s0 + all
  step_more steps s h at old new =
      let next : suc i ≡ i + 1 = omega arith in
      let own = ap (λ (x : StepValue). load (row trees x.child)) at in
      omega (arith, old, new, own, step_loads_left trees steps i s h, ap (λ n. loads (bounds_of_steps (steps_of trees (drop n steps)))) next)
