use Rattle.std.proofs.Common.{◌≡◌, ◌≤◌, ◌+◌, length, ap, ◌∙◌, sym, arith}
use Rattle.tdl_expr.specs.Rows.{sum_links, links_of}
use Rattle.tdl_expr.proofs.TableRows.{sum_links-append, table_with, pushed}
use Rattle.tdl_expr.proofs.tables.Table.push.Goals as goal

pub invariant_of-self-2 : goal.invariant_of-self-2
invariant_of-self-2 c =
    let nodes = c.self.inside.nodes.items in
    let node = c.args.node in
    let index : c.rows-index.result ≡ length nodes = c.rows-index.ensures.value ∙ sym (ap length c.self.view_is) in
    let rows : length nodes + 1 ≤ 2048 = omega (arith, c.if-rows-gt-MAX_ROWS.false) in
    let links : sum_links nodes + links_of node ≤ 8192 = omega (arith, c.if-links-gt-MAX_LINKS.false, c.self.invariant.1, c.links.ensures) in
    rw c.in_ok-push.ensures.items (
      table_with nodes node c.self.invariant.0 (rw (← c.self.view_is) at c.requires) rows links,
      omega
          (arith, c.self.invariant.1, c.links.ensures, sum_links-append nodes node),
    )

pub returns-clause-ok : goal.returns-clause-ok
returns-clause-ok c =
    rw (c.in_ok-push.ensures.items, c.rows-index.ensures.value, ← c.self.view_is)
    (pushed c.self.inside.nodes.items c.args.node)
