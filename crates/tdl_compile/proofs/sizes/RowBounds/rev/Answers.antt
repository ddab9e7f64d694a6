use Rattle.std.proofs.Common.{refl}
use Rattle.tdl_expr.specs.Tree.{Rev}
use Rattle.tdl_compile.proofs.Standing.{rev_stands}
use Rattle.tdl_compile.proofs.sizes.RowBounds.rev.Goals as goal

pub returns : goal.returns
returns c = λ e s.
    c.with_own.ensures (Rev e) (rev_stands e c.args.self _ s.bounds refl c.saturating_add.ensures refl refl)
    (record { finer = s.grows.finer; further = s.grows.further })
