use Rattle.tdl_expr.specs.Rows.{in_order}
use Rattle.tdl_compile.proofs.rows.pick_of.Goals as goal

pub returns : goal.returns
returns c = λ trees all valid.
    c.pick.ensures _ (in_order trees c.args.ids.now) valid (c.bounds_at.ensures trees all) (c.group_of-choices.ensures trees all valid.1)
