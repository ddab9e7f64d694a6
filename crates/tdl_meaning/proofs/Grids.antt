-- In a valid tree both ends of every whole and of every part are multiples of one over its grid.
use Rattle.std.proofs.Common.{◌≡◌, ℕ, ◌+◌, ◌*◌, List, refl, ap, subst}
use Rattle.std.specs.Int.{◌∣◌}
use Rattle.tdl_fraction.specs.Divisor.{lcm}
use Rattle.tdl_fraction.proofs.Coprime.{divides_lcm_left, divides_lcm_right}
use Rattle.tdl_expr.specs.Tree.{Tree, Silence, Pure, Fast, TimeCat, Cat, Stack, Rev, Pick, When, Shift, Join, Ply, Gate, Trees, empty, child, Steps, none}
use Rattle.tdl_expr.specs.Tree.{step}
use Rattle.tdl_expr.specs.Valid.{IsValid, AreValid, AreValidSteps}
use Rattle.tdl_expr.specs.Bounds.{sum_of_weights, grids, bounds, bounds_of, bounds_of_steps, grid}
use Rattle.tdl_meaning.specs.Pattern.{Share, total_weight, time_cat}
use Rattle.tdl_meaning.specs.Meaning.{cyc, patterns, weighted}
use Rattle.tdl_meaning.specs.Proper.{Each}
use Rattle.tdl_meaning.specs.Values.{meets, value_of}
use Rattle.tdl_meaning.proofs.Gridded.{HasGrid}
use Rattle.tdl_meaning.proofs.Lists.{each_weaker}
use Rattle.tdl_meaning.proofs.Proper.{proper}
use Rattle.tdl_meaning.proofs.kinds.Grids.{finer, all_finer, silence_grid, pure_grid, fast_grid, time_cat_grid, cat_grid, stack_grid, rev_grid, pick_grid}
use Rattle.tdl_meaning.proofs.kinds.When.{when_grid}
use Rattle.tdl_meaning.proofs.kinds.Shift.{shift_grid}
use Rattle.tdl_meaning.proofs.kinds.Join.{join_grid}
use Rattle.tdl_meaning.proofs.kinds.Ply.{ply_grid}
use Rattle.tdl_meaning.proofs.kinds.Gate.{gate_grid}

pub same_weights : (steps : Steps) → total_weight (weighted steps) ≡ sum_of_weights steps
same_weights none = refl
same_weights (step w e steps) = ap (λ n. w + n) (same_weights steps)

steps_finer : (g h : ℕ) → g ∣ h → (steps : List Share) → Each (λ s. HasGrid g s.pattern) steps → Each (λ s. HasGrid h s.pattern) steps
steps_finer g h d steps all = each_weaker (λ s. HasGrid g s.pattern) (λ s. HasGrid h s.pattern) (λ s. finer g h d s.pattern) steps all

time_cat_gridded : (g : ℕ) (steps : Steps) → Each (λ s. HasGrid g s.pattern) (weighted steps) → HasGrid (sum_of_weights steps * g) (time_cat (weighted steps))
time_cat_gridded g steps all = subst (λ n. HasGrid (n * g) (time_cat (weighted steps))) (same_weights steps) (time_cat_grid g (weighted steps) all)

mutual
  pub gridded : (e : Tree) → IsValid e → HasGrid (grid e) (cyc e)
  gridded Silence valid = silence_grid 1
  gridded (Pure v) valid = pure_grid v
  gridded (Fast r e) valid = fast_grid r (grid e) (cyc e) valid.0 (gridded e valid.1)
  gridded (TimeCat steps) valid = time_cat_gridded (grids (bounds_of_steps steps)) steps (gridded_steps steps valid.1)
  gridded (Cat trees) valid = cat_grid (grids (bounds_of trees)) (patterns trees) (gridded_all trees valid)
  gridded (Stack trees) valid = stack_grid (grids (bounds_of trees)) (patterns trees) (gridded_all trees valid)
  gridded (Rev e) valid = rev_grid (grid e) (cyc e) (gridded e valid)
  gridded (Pick selector trees) valid =
      pick_grid (grid selector) (grids (bounds_of trees)) (cyc selector) (patterns trees) (proper selector valid.0) (gridded selector valid.0)
      (gridded_all trees valid.1)
  gridded (When modulus test d e) valid = when_grid modulus (meets test) (cyc d) (cyc e) (grid d) (grid e) (gridded d valid.1) (gridded e valid.2)
  gridded (Shift t e) valid = shift_grid t (cyc e) (grid e) (gridded e valid)
  gridded (Join side op d e) valid =
      join_grid (value_of op) (cyc d) (cyc e) side (bounds d) (bounds e) (proper d valid.0) (proper e valid.1) (gridded d valid.0) (gridded e valid.1)
  gridded (Ply n e) valid = ply_grid n (cyc e) (grid e) valid.0 (gridded e valid.1)
  gridded (Gate from to inside e) valid = gate_grid from to inside (cyc e) (grid e) (gridded e valid)

  pub gridded_all : (trees : Trees) → AreValid trees → Each (HasGrid (grids (bounds_of trees))) (patterns trees)
  gridded_all empty valid = tt
  gridded_all (child e trees) valid = (
    finer (grid e) (lcm (grid e) (grids (bounds_of trees))) (divides_lcm_left (grid e) (grids (bounds_of trees))) (cyc e) (gridded e valid.0),
    all_finer (grids (bounds_of trees)) (lcm (grid e) (grids (bounds_of trees))) (divides_lcm_right (grid e) (grids (bounds_of trees))) (patterns trees)
        (gridded_all trees valid.1),
  )

  pub gridded_steps : (steps : Steps) → AreValidSteps steps → Each (λ s. HasGrid (grids (bounds_of_steps steps)) s.pattern) (weighted steps)
  gridded_steps none valid = tt
  gridded_steps (step w e steps) valid =
      let rest = grids (bounds_of_steps steps) in (
        finer (grid e) (lcm (grid e) rest) (divides_lcm_left (grid e) rest) (cyc e) (gridded e valid.1),
        steps_finer rest (lcm (grid e) rest) (divides_lcm_right (grid e) rest) (weighted steps) (gridded_steps steps valid.2),
      )
