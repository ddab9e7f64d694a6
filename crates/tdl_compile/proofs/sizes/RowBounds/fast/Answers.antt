use Rattle.tdl_expr.specs.Tree.{Fast}
use Rattle.tdl_expr.proofs.Numbers.{upper_positive}
use Rattle.tdl_compile.proofs.Growing.{fast_below}
use Rattle.tdl_compile.proofs.Standing.{fast_stands}
use Rattle.tdl_compile.proofs.sizes.RowBounds.fast.Goals as goal

pub returns : goal.returns
returns c = λ e valid s.
    let rate = c.args.rate in
    c.with_own.ensures (Fast rate e)
    (fast_stands rate e c.args.self _ c.touched-times.result c.saturating_mul-visits.result valid s.bounds
    c.touched-times.ensures c.saturating_mul.ensures c.saturating_mul-visits.ensures c.saturating_add.ensures c.hang_at.ensures c.grid_at.ensures.value)
    (fast_below rate e c.args.self.growth _ (upper_positive rate valid.0) s.grows c.fast.ensures.finer c.fast.ensures.further)
