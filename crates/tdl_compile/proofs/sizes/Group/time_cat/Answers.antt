use Rattle.std.proofs.Common.{refl}
use Rattle.tdl_expr.specs.Tree.{TimeCat}
use Rattle.tdl_compile.proofs.Standing.{time_cat_stands}
use Rattle.tdl_compile.proofs.sizes.Group.time_cat.Goals as goal

pub returns : goal.returns
returns c = λ steps is t.
    c.with_own.ensures (TimeCat steps)
    (time_cat_stands steps c.args.self _ c.args.sum t is refl c.saturating_add.ensures refl c.saturating_mul.ensures)
    (record { finer = t.grows.finer; further = t.grows.further })
