-- In a valid tree the whole of an event of a cycle hangs over the cycle by at most the tree's hang, at either end.
use Rattle.std.proofs.Common.{ℕ, ◌<◌, ◌≤◌, max, List, arith}
use Rattle.tdl_expr.specs.Tree.{Tree, Silence, Pure, Fast, TimeCat, Cat, Stack, Rev, Pick, When, Shift, Join, Ply, Gate, Trees, empty, child, Steps, none}
use Rattle.tdl_expr.specs.Tree.{step}
use Rattle.tdl_expr.specs.Valid.{IsValid, AreValid, AreValidSteps}
use Rattle.tdl_expr.specs.Bounds.{hangs, bounds, bounds_of, bounds_of_steps, hang}
use Rattle.tdl_meaning.specs.Pattern.{Share}
use Rattle.tdl_meaning.specs.Meaning.{cyc, patterns, weighted}
use Rattle.tdl_meaning.specs.Proper.{Each}
use Rattle.tdl_meaning.specs.Values.{meets, value_of}
use Rattle.tdl_meaning.proofs.Gridded.{HasHang}
use Rattle.tdl_meaning.proofs.Lists.{each_weaker}
use Rattle.tdl_meaning.proofs.Proper.{proper}
use Rattle.tdl_meaning.proofs.kinds.Hangs.{further, all_further, silence_hang, pure_hang, fast_hang, time_cat_hang, cat_hang, stack_hang, rev_hang, pick_hang}
use Rattle.tdl_meaning.proofs.kinds.When.{when_hang}
use Rattle.tdl_meaning.proofs.kinds.Shift.{shift_hang}
use Rattle.tdl_meaning.proofs.kinds.Join.{join_hang}
use Rattle.tdl_meaning.proofs.kinds.Ply.{ply_hang}
use Rattle.tdl_meaning.proofs.kinds.Gate.{gate_hang}

steps_further : (h k : ℕ) → h ≤ k → (steps : List Share) → Each (λ s. (0 < s.weight) × HasHang h s.pattern) steps
    → Each (λ s. (0 < s.weight) × HasHang k s.pattern) steps
steps_further h k le steps all =
    each_weaker (λ s. (0 < s.weight) × HasHang h s.pattern) (λ s. (0 < s.weight) × HasHang k s.pattern) (λ s both. (both.0, further h k le s.pattern both.1))
    steps all

left : (a b : ℕ) → a ≤ max a b
left a b = omega arith

right : (a b : ℕ) → b ≤ max a b
right a b = omega arith

mutual
  pub hung : (e : Tree) → IsValid e → HasHang (hang e) (cyc e)
  hung Silence valid = silence_hang 0
  hung (Pure v) valid = pure_hang v
  hung (Fast r e) valid = fast_hang r (hang e) (cyc e) valid.0 (hung e valid.1)
  hung (TimeCat steps) valid = time_cat_hang (hangs (bounds_of_steps steps)) (weighted steps) (hung_steps steps valid.1)
  hung (Cat trees) valid = cat_hang (hangs (bounds_of trees)) (patterns trees) (hung_all trees valid)
  hung (Stack trees) valid = stack_hang (hangs (bounds_of trees)) (patterns trees) (hung_all trees valid)
  hung (Rev e) valid = rev_hang (hang e) (cyc e) (hung e valid)
  hung (Pick selector trees) valid =
      pick_hang (hangs (bounds_of trees)) (cyc selector) (patterns trees) (proper selector valid.0) (hung_all trees valid.1)
  hung (When modulus test d e) valid = when_hang modulus (meets test) (cyc d) (cyc e) (hang d) (hang e) (hung d valid.1) (hung e valid.2)
  hung (Shift t e) valid = shift_hang t (cyc e) (hang e) (hung e valid)
  hung (Join side op d e) valid = join_hang (value_of op) (cyc d) (cyc e) side (bounds d) (bounds e) (hung d valid.0) (hung e valid.1)
  hung (Ply n e) valid = ply_hang n (cyc e) (hang e) (proper e valid.1) (hung e valid.1)
  hung (Gate from to inside e) valid = gate_hang from to inside (cyc e) (hang e) (hung e valid)

  pub hung_all : (trees : Trees) → AreValid trees → Each (HasHang (hangs (bounds_of trees))) (patterns trees)
  hung_all empty valid = tt
  hung_all (child e trees) valid =
      let rest = hangs (bounds_of trees) in (
        further (hang e) (max (hang e) rest) (left (hang e) rest) (cyc e) (hung e valid.0),
        all_further rest (max (hang e) rest) (right (hang e) rest) (patterns trees) (hung_all trees valid.1),
      )

  pub hung_steps : (steps : Steps) → AreValidSteps steps → Each (λ s. (0 < s.weight) × HasHang (hangs (bounds_of_steps steps)) s.pattern) (weighted steps)
  hung_steps none valid = tt
  hung_steps (step w e steps) valid =
      let rest = hangs (bounds_of_steps steps) in (
        (valid.0, further (hang e) (max (hang e) rest) (left (hang e) rest) (cyc e) (hung e valid.1)),
        steps_further rest (max (hang e) rest) (right (hang e) rest) (weighted steps) (hung_steps steps valid.2),
      )
