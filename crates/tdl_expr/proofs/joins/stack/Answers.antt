use Rattle.std.proofs.Common.{◌≤◌, length, arith}
use Rattle.tdl_expr.proofs.JoinLemmas.{joins_stack}
use Rattle.tdl_expr.proofs.joins.stack.Goals as goal

pub returns-in_ok-children-in_default : goal.returns-in_ok-children-in_default
returns-in_ok-children-in_default c =
    let many : 2 ≤ length c.args.children.now = omega (arith, c.in_default.len_at_least) in
    let push = rw c.in_ok-children-in_default.ensures at c.push-in_default.ensures in
    joins_stack c.args.table.now c.push-in_default.new.self c.args.children.now many
    c.push-in_default.result (record { ok = push.ok; refused = push.refused; only = push.only; err = push.err })
