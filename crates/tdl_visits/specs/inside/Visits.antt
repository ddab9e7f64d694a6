-- How many nodes an evaluator visits that asks each child for what is needed and no more.
--     visits        of a tree, for an arc of a cycle
--     visits_in     of a tree, for an arc of any cycles
--     visits_at     of the children of a choice, for an event of its selector
--     if_met        a number for an arc, and 0 where there is none
--     at_index      a number for an index, and 0 for another value
--     by_cycles     a number for what an arc has of each of its cycles, all together
use Rattle.std.specs.Prelude.{ℕ, zero, suc, ◌+◌, cond, length, sum_by, Option, Some, None, ℤ, ◌-ℤ◌}
use Rattle.tdl_control.specs.declared.leaves.Leaf.{Leaf}
use Rattle.tdl_control.specs.declared.leaves.Leaf.TheVariants.{Controls, Truth, Index}
use Rattle.tdl_fraction.specs.Rational.{whole, ◌-ℚ◌, ◌*ℚ◌}
use Rattle.tdl_fraction.specs.Arc.{Arc, map_arc, meet}
use Rattle.tdl_event.specs.Event.{Event}
use Rattle.tdl_expr.specs.declared.joinings.Side.TheVariants.{Left, Right, Both}
use Rattle.tdl_expr.specs.Tree.{Tree, Silence, Pure, Fast, TimeCat, Cat, Stack, Rev, Pick, When, Shift, Join, Ply, Gate, Trees, empty, child, Steps, none}
use Rattle.tdl_expr.specs.Tree.{step}
use Rattle.tdl_expr.specs.Bounds.{sum_of_weights}
use Rattle.tdl_meaning.specs.Pattern.{over, cycles_of, cycle_arc, rounds, turn, turned}
use Rattle.tdl_meaning.specs.Values.{meets}
use Rattle.tdl_meaning.specs.Meaning.{cyc, patterns}
use Rattle.tdl_meaning.specs.inside.Arcs.{step_ask}

abbrev pub if_met : (Arc → ℕ) → Option Arc → ℕ
if_met f None = 0
if_met f (Some a) = f a

abbrev pub at_index : (ℕ → ℕ) → Leaf → ℕ
at_index f (Controls controls) = 0
at_index f (Truth truth) = 0
at_index f (Index k) = f k

abbrev pub by_cycles : (ℤ → Arc → ℕ) → Arc → ℕ
by_cycles f a = sum_by (λ c. if_met (f c) (meet (cycle_arc c) a)) (cycles_of a)

abbrev mutual
  pub visits : Tree → ℤ → Arc → ℕ
  visits Silence c a = 1
  visits (Pure v) c a = 1
  visits (Fast r e) c a = 1 + by_cycles (visits e) (map_arc (λ t. t *ℚ r) a)
  visits (TimeCat steps) c a = 1 + visits_of_steps steps (sum_of_weights steps) 0 c a
  visits (Cat trees) c a =
      let n = length (patterns trees) in
      1 + visits_of_nth trees (turn c n) (rounds c n) (map_arc (λ t. t -ℚ whole (c -ℤ rounds c n)) a)
  visits (Stack trees) c a = 1 + visits_of trees c a
  visits (Rev e) c a = 1 + visits e c (turned c a)
  visits (Pick selector trees) c a =
      1 + visits selector c a + sum_by (λ e. at_index (λ k. visits_of_nth trees k c e.part) e.value) (over (cyc selector) a)
  visits (When modulus test d e) c a = 1 + cond (meets test (turn c modulus)) (visits d c a) (visits e c a)
  visits (Shift t e) c a = 1 + by_cycles (visits e) (map_arc (λ u. u -ℚ t) a)
  -- the other side for what the cycle has of each of the wholes
  visits (Join Left op d e) c a = 1 + visits d c a + sum_by (λ l. if_met (visits e c) (meet (cycle_arc c) l.whole)) (over (cyc d) a)
  visits (Join Right op d e) c a = 1 + visits e c a + sum_by (λ r. if_met (visits d c) (meet (cycle_arc c) r.whole)) (over (cyc e) a)
  visits (Join Both op d e) c a = 1 + visits d c a + visits e c a
  visits (Ply n e) c a = 1 + visits e c a
  visits (Gate from to inside e) c a = 1 + visits e c a

  -- of all the trees
  pub visits_of : Trees → ℤ → Arc → ℕ
  visits_of empty c a = 0
  visits_of (child e trees) c a = visits e c a + visits_of trees c a

  -- of the tree at a place, from 0
  pub visits_of_nth : Trees → ℕ → ℤ → Arc → ℕ
  visits_of_nth empty k c a = 0
  visits_of_nth (child e trees) zero c a = visits e c a
  visits_of_nth (child e trees) (suc k) c a = visits_of_nth trees k c a

  -- of steps after earlier weights o, of weights W in all
  pub visits_of_steps : Steps → ℕ → ℕ → ℤ → Arc → ℕ
  visits_of_steps none W o c a = 0
  visits_of_steps (step w e steps) W o c a = if_met (visits e c) (step_ask c o w W a) + visits_of_steps steps W (o + w) c a

abbrev pub visits_in : Tree → Arc → ℕ
visits_in e a = by_cycles (visits e) a

abbrev pub visits_at : Trees → ℤ → Event → ℕ
visits_at trees c e = at_index (λ k. visits_of_nth trees k c e.part) e.value
