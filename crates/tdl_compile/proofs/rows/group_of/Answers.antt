use Rattle.std.proofs.Common.{◌≡◌, ℕ, ◌-◌, arith, drop, refl, subst}
use Rattle.tdl_expr.specs.Rows.{in_order}
use Rattle.tdl_expr.specs.Valid.{AreValid}
use Rattle.tdl_compile.specs.inside.Sizes.{CollectsTrees}
use Rattle.tdl_compile.proofs.Loops.{collected_child, drop_before}
use Rattle.tdl_compile.proofs.rows.group_of.Goals as goal

pub loop-at-preserved : goal.loop-at-preserved
loop-at-preserved c = (
  omega (arith, c.loop-at.invariant.0),
  λ trees all.
      collected_child trees (drop (c.loop-at.at - 1) c.args.ids.now) (drop c.loop-at.at c.args.ids.now) _
      c.bounds_at.result c.loop-at.group c.with-group.result
      (drop_before c.args.ids.now c.loop-at.at _ c.loop-at-test.true c.loop-at.invariant.0) (c.bounds_at.ensures trees all)
      (c.loop-at.invariant.1 trees all) (λ e rest. c.with-group.ensures.trees e rest refl),
)

pub returns : goal.returns
returns c = λ trees all.
    let from : c.loop-at.at ≡ 0 = omega arith in
    let P : ℕ → Type 0 = λ k. AreValid (in_order trees (drop k c.args.ids.now)) → CollectsTrees c.loop-at.group (in_order trees (drop k c.args.ids.now)) in
    subst P from (c.loop-at.invariant.1 trees all)
