use Rattle.std.proofs.Common.{◌≡◌, ◌<◌, ap, ◌∙◌, sym, length, get_or}
use Rattle.std.proofs.lemmas.List.{get_or_default}
use Rattle.tdl_expr.specs.declared.nodes.Node.TheVariants.{Silence}
use Rattle.tdl_expr.specs.Rows.{tree_of, trees_of}
use Rattle.tdl_expr.proofs.TableRows.{tree_at-node}
use Rattle.tdl_expr.proofs.tables.Table.get.Goals as goal

pub returns-clause-tree : goal.returns-clause-tree
returns-clause-tree c =
    let nodes = c.self.inside.nodes.items in
    let id = c.args.id in
    let node = c.index.result.now in
    let row : id.index < length nodes = rw c.self.view_is c.requires in
    let is : get_or nodes id.index Silence ≡ node = get_or_default nodes id.index Silence node row ∙ sym c.index.ensures in
    rw (← c.self.view_is) (tree_at-node nodes id c.self.invariant.0 row ∙ ap (tree_of (trees_of nodes)) is)
