use Rattle.std.proofs.Common.{refl}
use Rattle.tdl_expr.specs.Tree.{Stack}
use Rattle.tdl_compile.proofs.Standing.{stack_stands}
use Rattle.tdl_compile.proofs.sizes.Group.stack.Goals as goal

pub returns : goal.returns
returns c = λ trees t.
    c.with_own.ensures (Stack trees) (stack_stands trees c.args.self _ t refl c.saturating_add.ensures refl refl)
    (record { finer = t.grows.finer; further = t.grows.further })
