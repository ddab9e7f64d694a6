use Rattle.std.proofs.Common.{◌≡◌, ℕ, ◌-◌, length, arith, drop, subst}
use Rattle.tdl_expr.specs.Rows.{weighted}
use Rattle.tdl_expr.specs.Valid.{AreValidSteps}
use Rattle.tdl_compile.specs.inside.Sizes.{CollectsSteps}
use Rattle.tdl_compile.proofs.Loops.{collected_step, drop_before, child_below}
use Rattle.tdl_compile.proofs.rows.group_of_steps.Goals as goal

pub bounds_at-requires : goal.bounds_at-requires
bounds_at-requires c =
    child_below (length c.args.rows.now) c.args.steps.now c.requires (c.loop-at.at - 1) _ (omega (arith, c.loop-at.invariant.0))

pub loop-at-preserved : goal.loop-at-preserved
loop-at-preserved c = (
  omega (arith, c.loop-at.invariant.0),
  λ trees all.
      collected_step trees (drop (c.loop-at.at - 1) c.args.steps.now) (drop c.loop-at.at c.args.steps.now) _
      c.bounds_at.result c.loop-at.group c.with-group.result
      (drop_before c.args.steps.now c.loop-at.at _ c.loop-at-test.true c.loop-at.invariant.0) (c.bounds_at.ensures trees all)
      (c.loop-at.invariant.1 trees all) c.with-group.ensures.steps,
)

pub returns : goal.returns
returns c = λ trees all.
    let from : c.loop-at.at ≡ 0 = omega arith in
    let steps = c.args.steps.now in
    let P : ℕ → Type 0 = λ k. AreValidSteps (weighted trees (drop k steps)) → CollectsSteps c.loop-at.group (weighted trees (drop k steps)) in
    subst P from (c.loop-at.invariant.1 trees all)
