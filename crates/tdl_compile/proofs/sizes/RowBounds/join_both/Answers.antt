use Rattle.std.proofs.Common.{refl}
use Rattle.tdl_expr.specs.declared.joinings.Side.TheVariants.{Both}
use Rattle.tdl_expr.specs.Tree.{Join}
use Rattle.tdl_compile.proofs.Growing.{both_below}
use Rattle.tdl_compile.proofs.OtherKinds.{both_stands}
use Rattle.tdl_compile.proofs.sizes.RowBounds.join_both.Goals as goal

pub returns : goal.returns
returns c = λ op d e valid s t.
    c.with_own.ensures (Join Both op d e)
    (both_stands op d e c.args.self c.args.right _ c.saturating_mul-pairs.result c.saturating_add-sides.result c.saturating_add-own.result
    valid s.bounds t.bounds c.saturating_mul-pairs.ensures c.saturating_add-sides.ensures c.saturating_add-own.ensures refl c.saturating_add.ensures
    c.min.ensures c.least_multiple.ensures.value)
    (both_below op d e c.args.self.growth c.args.right.growth _ s.grows t.grows c.with.ensures.finer c.with.ensures.further)
