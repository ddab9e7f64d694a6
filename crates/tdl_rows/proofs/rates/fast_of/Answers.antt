use Rattle.std.proofs.Common.{true, false, refl, arith}
use Rattle.tdl_fraction.specs.Rational.{neg_ℚ}
use Rattle.tdl_expr.specs.Tree.{Silence}
use Rattle.tdl_expr.specs.declared.nodes.Node.TheVariants as node
use Rattle.tdl_rows.proofs.Gained.{exit_refused}
use Rattle.tdl_rows.proofs.Pushes.{pushed_row}
use Rattle.tdl_rows.proofs.RateRows.{above_zero, less_is, fast-zero, turned_refused, turned_row}
use Rattle.tdl_rows.proofs.Gained.{LowersTo-same}
use Rattle.std.proofs.Common.{sym}
use Rattle.tdl_rows.proofs.rates.fast_of.Goals as goal

pub faster-requires-clause-positive : goal.faster-requires-clause-positive
faster-requires-clause-positive c = above_zero _ _ c.whole-zero.ensures (c.is_less.ensures.less.0 (grind arith))

pub faster-requires-then-is_less-2-clause-positive : goal.faster-requires-then-is_less-2-clause-positive
faster-requires-then-is_less-2-clause-positive c = above_zero _ _ c.whole-zero.ensures (c.is_less-2.ensures.less.0 (grind arith))

pub returns-in_err-child : goal.returns-in_err-child
returns-in_err-child c =
    let low = less_is _ c.args.rate _ _ false c.whole-zero.ensures refl c.is_less.ensures.value c.if-is_less.false in
    let high = less_is _ (neg_ℚ c.args.rate) _ _ true c.whole-zero.ensures c.negative-turned.ensures c.is_less-2.ensures.value c.if-is_less-2.true in
    exit_refused _ _ c.from_residual.result c.from_residual.ensures.1
    (turned_refused c.args.rate _ _ low high c.negative-turned.ensures _ _ _ c.in_err-child.ensures)

pub returns-then-is_less-2 : goal.returns-then-is_less-2
returns-then-is_less-2 c =
    let low = less_is _ c.args.rate _ _ false c.whole-zero.ensures refl c.is_less.ensures.value c.if-is_less.false in
    let high = less_is _ (neg_ℚ c.args.rate) _ _ true c.whole-zero.ensures c.negative-turned.ensures c.is_less-2.ensures.value c.if-is_less-2.true in
    turned_row c.args.rate _ _ low high c.negative-turned.ensures _ _ _ c.in_ok-child.child c.push.result c.in_ok-child.ensures
    (pushed_row _ _ (node.Rev c.in_ok-child.child) 1 _ c.push.result refl refl c.push.ensures.ok c.push.ensures.refused c.push.ensures.only c.push.ensures.err)

pub returns : goal.returns
returns c =
    let low = less_is _ c.args.rate _ _ false c.whole-zero.ensures refl c.is_less.ensures.value c.if-is_less.false in
    let none = less_is _ (neg_ℚ c.args.rate) _ _ false c.whole-zero.ensures c.negative-turned.ensures c.is_less-2.ensures.value c.if-is_less-2.false in
    LowersTo-same _ _ _ _ c.push-2.result (sym (fast-zero c.args.rate _ low none))
    (pushed_row _ _ node.Silence 0 Silence c.push-2.result refl refl c.push-2.ensures.ok c.push-2.ensures.refused c.push-2.ensures.only c.push-2.ensures.err)
