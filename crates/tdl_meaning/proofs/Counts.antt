-- How many events a tree has in a cycle, and in an arc of one cycle.
use Rattle.std.proofs.Common.{ℕ, ◌+◌, ◌*◌, ◌≤◌, max, map, length, ℤ, length-append, sym, subst, arith}
use Rattle.std.proofs.Math.Nat.{le_trans, le-max_left, le-max_right}
use Rattle.std.proofs.lemmas.List.{length-map}
use Rattle.tdl_fraction.specs.Arc.{Arc, IsArc, IsInside}
use Rattle.tdl_expr.specs.Tree.{Tree, Silence, Pure, Fast, TimeCat, Cat, Stack, Rev, Pick, When, Shift, Join, Ply, Gate, Trees, empty, child, Steps, none}
use Rattle.tdl_expr.specs.Tree.{step}
use Rattle.tdl_expr.specs.Valid.{IsValid, AreValid, AreValidSteps}
use Rattle.tdl_expr.specs.Bounds.{bounds, bounds_of, bounds_of_steps, counts, most}
use Rattle.tdl_meaning.specs.Pattern.{over, cycle_arc, moved, squeezed, steps_from, time_cat, stack}
use Rattle.tdl_meaning.specs.Kinds.{shift}
use Rattle.tdl_meaning.specs.Values.{meets, value_of}
use Rattle.tdl_meaning.specs.Meaning.{cyc, patterns, weighted}
use Rattle.tdl_meaning.specs.Proper.{Each}
use Rattle.tdl_meaning.proofs.Lists.{each_weaker}
use Rattle.tdl_meaning.proofs.Proper.{proper}
use Rattle.tdl_meaning.proofs.Hangs.{hung}
use Rattle.tdl_meaning.proofs.kinds.Counts.{HasCount, count_inside, count_silence, count_pure, count_fast, count_cat, count_rev, count_pick}
use Rattle.tdl_meaning.proofs.kinds.When.{when_count}
use Rattle.tdl_meaning.proofs.kinds.Shift.{touches_one_or_two, shift_count}
use Rattle.tdl_meaning.proofs.kinds.Join.{join_count}
use Rattle.tdl_meaning.proofs.kinds.Ply.{ply_count}
use Rattle.tdl_meaning.proofs.kinds.Gate.{gate_count}
pub use Rattle.tdl_meaning.proofs.kinds.Counts.{arc_touches}

mutual
  unfolding time_cat stack

  -- a tree has at most its count of events in a cycle
  pub counted : (e : Tree) → IsValid e → HasCount (bounds e).count (cyc e)
  counted Silence valid = count_silence 0
  counted (Pure v) valid = count_pure v
  counted (Fast r e) valid = count_fast r (bounds e).count (cyc e) valid.0 (counted e valid.1)
  counted (TimeCat steps) valid = λ c. count_steps steps valid.1 _ 0 c
  counted (Cat trees) valid = count_cat (most (bounds_of trees)) (patterns trees) (counted_each trees valid)
  counted (Stack trees) valid = count_stack trees valid
  counted (Rev e) valid = count_rev (bounds e).count (cyc e) (counted e valid)
  counted (Pick selector trees) valid =
      count_pick (cyc selector) (proper selector valid.0) (bounds selector).count (most (bounds_of trees)) (patterns trees) (counted selector valid.0)
      (counted_each trees valid.1)
  counted (When modulus test d e) valid =
      when_count modulus (meets test) (cyc d) (cyc e) (bounds d).count (bounds e).count (counted d valid.1) (counted e valid.2)
  counted (Shift t e) valid =
      subst (λ n. HasCount (n * (bounds e).count) (shift t (cyc e))) (sym (touches_one_or_two t)) (shift_count t (cyc e) (bounds e).count (counted e valid))
  counted (Join side op d e) valid =
      join_count (value_of op) (cyc d) (cyc e) side (bounds d) (bounds e) (proper d valid.0) (proper e valid.1) (hung d valid.0) (hung e valid.1)
      (counted d valid.0) (counted e valid.1)
  counted (Ply n e) valid = ply_count n (cyc e) (bounds e).count (counted e valid.1)
  counted (Gate from to inside e) valid = gate_count from to inside (cyc e) (bounds e).count (counted e valid)

  counted_each : (trees : Trees) → AreValid trees → Each (HasCount (most (bounds_of trees))) (patterns trees)
  counted_each empty valid = tt
  counted_each (child e trees) valid =
      let n = (bounds e).count in
      let k = most (bounds_of trees) in (
        λ c. le_trans (counted e valid.0 c) (le-max_left n k),
        each_weaker (HasCount k) (HasCount (max n k)) (λ p few c. le_trans (few c) (le-max_right n k)) (patterns trees) (counted_each trees valid.1),
      )

  count_stack : (trees : Trees) → AreValid trees → HasCount (counts (bounds_of trees)) (stack (patterns trees))
  count_stack empty valid c = omega arith
  count_stack (child e trees) valid c =
      let one = counted e valid.0 c in
      let others = count_stack trees valid.1 c in
      rw (length-append (cyc e c) (stack (patterns trees) c)) (omega arith)

  count_steps : (steps : Steps) → AreValidSteps steps → (W o : ℕ) → HasCount (counts (bounds_of_steps steps)) (steps_from W o (weighted steps))
  count_steps none valid W o c = omega arith
  count_steps (step w e steps) valid W o c =
      let one = counted e valid.1 c in
      let others = count_steps steps valid.2 W (o + w) c in
      rw (length-append (map (moved (squeezed c o w W)) (cyc e c)) (steps_from W (o + w) (weighted steps) c))
      (rw (length-map (cyc e c) (moved (squeezed c o w W))) (omega arith))

-- and so in an arc of one cycle
pub counted_inside : (e : Tree) → IsValid e → (c : ℤ) (a : Arc) → IsArc a → IsInside a (cycle_arc c) → length (over (cyc e) a) ≤ (bounds e).count
counted_inside e valid c a h inside = count_inside (bounds e).count (cyc e) (counted e valid) c a h inside
