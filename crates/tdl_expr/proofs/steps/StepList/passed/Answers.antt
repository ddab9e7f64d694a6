use Rattle.std.proofs.Common.{◌≡◌, leb, ◌^◌, ◌<◌, length, rules, arith}
use Rattle.std.proofs.lemmas.List.Sorted.{IsPartitionPoint-from_clause, IsPartitionedBy-leb}
use Rattle.tdl_expr.specs.Passed.{weight_sum, ends_after}
use Rattle.tdl_expr.proofs.PassedLemmas.{ends_rise, passed_of_even, passed_of_point}
use Rattle.tdl_expr.proofs.steps.StepList.passed.Goals as goal

pub returns-in-Even : goal.returns-in-Even
returns-in-Even c =
    let steps = c.self.inside.steps.items in
    let count : c.len.result ≡ length steps = omega (arith, c.len.ensures, c.self.inside.steps.ok) in
    rw (c.min.ensures, count, ← c.self.view_is) (passed_of_even steps c.args.weight (rw c.in-Even.is at c.self.invariant))

pub returns-in-At : goal.returns-in-At
returns-in-At c =
    let steps = c.self.inside.steps.items in
    let ends : c.in-At.ends.items ≡ ends_after 0 steps = rw c.in-At.is at c.self.invariant in
    let fits : weight_sum steps < 2 ^ 64 = omega (arith, rw (← c.self.view_is) at c.requires) in
    let parted = IsPartitionedBy-leb (λ n. n) (ends_after 0 steps) c.args.weight (ends_rise steps fits) in
    let point = IsPartitionPoint-from_clause (λ n. leb n c.args.weight) _ _ c.partition_point.ensures.partitioned
    (rw (c.deref.ensures.value, ends) parted) (λ a r q k. search rules) in
    rw (← c.self.view_is) (passed_of_point steps c.args.weight c.partition_point.result fits
    (rw (c.deref.ensures.value, ends) at point) (rw (c.deref.ensures.value, ends) at c.partition_point.ensures.bound))
