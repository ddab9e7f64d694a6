use Rattle.tdl_expr.specs.Tree.{When}
use Rattle.tdl_compile.proofs.Growing.{when_below}
use Rattle.tdl_compile.proofs.OtherKinds.{when_stands}
use Rattle.tdl_compile.proofs.sizes.RowBounds.when.Goals as goal

pub returns : goal.returns
returns c = λ modulus test d e valid s t.
    c.with_own.ensures (When modulus test d e)
    (when_stands modulus test d e c.args.self c.args.other _ c.saturating_add-own.result valid s.bounds t.bounds
    c.max.ensures c.saturating_add-own.ensures c.saturating_add.ensures c.max-2.ensures c.least_multiple.ensures.value)
    (when_below modulus test d e c.args.self.growth c.args.other.growth _ s.grows t.grows c.with.ensures.finer c.with.ensures.further)
