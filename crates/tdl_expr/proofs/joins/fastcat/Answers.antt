use Rattle.std.proofs.Common.{◌≤◌, length, arith}
use Rattle.tdl_expr.specs.Weights.{even_steps}
use Rattle.tdl_expr.proofs.JoinLemmas.{joins_steps, even_length, even_node}
use Rattle.tdl_expr.proofs.joins.fastcat.Goals as goal

pub push-requires-in_default : goal.push-requires-in_default
push-requires-in_default c =
    let many : 2 ≤ length c.args.children.now = omega (arith, c.in_default.len_at_least) in
    rw (c.in_ok-steps-in_default.ensures, c.in_ok-even_steps-in_default.ensures)
    (even_node c.args.table.now c.args.children.now c.requires.rows many c.requires.few)

pub returns-in_ok-steps-in_default : goal.returns-in_ok-steps-in_default
returns-in_ok-steps-in_default c =
    let ids = c.args.children.now in
    let many : 2 ≤ length ids = omega (arith, c.in_default.len_at_least) in
    let push = rw (c.in_ok-steps-in_default.ensures, c.in_ok-even_steps-in_default.ensures) at c.push-in_default.ensures in
    joins_steps c.args.table.now c.push-in_default.new.self ids many (even_steps ids) (even_length ids)
    c.push-in_default.result (record { ok = push.ok; refused = push.refused; only = push.only; err = push.err })
