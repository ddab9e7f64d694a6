use Rattle.std.proofs.Common.{refl}
use Rattle.tdl_expr.specs.declared.nodes.Node.TheVariants as node
use Rattle.tdl_rows.proofs.Pushes.{pushed_row}
use Rattle.tdl_prepare.proofs.leaves.pure.Goals as goal

pub returns : goal.returns
returns c = pushed_row _ _ (node.Pure c.args.leaf) 0 _ c.push.result refl refl c.push.ensures.ok c.push.ensures.refused c.push.ensures.only c.push.ensures.err
