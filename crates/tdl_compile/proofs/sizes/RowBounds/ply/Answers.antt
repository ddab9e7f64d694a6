use Rattle.std.proofs.Common.{refl}
use Rattle.tdl_expr.specs.Tree.{Ply}
use Rattle.tdl_compile.proofs.OtherKinds.{ply_stands}
use Rattle.tdl_compile.proofs.sizes.RowBounds.ply.Goals as goal

pub returns : goal.returns
returns c = λ e valid s.
    c.with_own.ensures (Ply c.args.times e)
    (ply_stands c.args.times e c.args.self _ c.saturating_mul-pieces.result c.saturating_add-own.result s.bounds
    c.saturating_mul-pieces.ensures c.saturating_add-own.ensures refl c.saturating_add.ensures refl c.saturating_mul.ensures)
    (record { finer = s.grows.finer; further = s.grows.further })
