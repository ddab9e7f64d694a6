use Rattle.std.proofs.Common.{ℤ, ◌≤◌, ◌^◌, nat_abs, subst, ◌∙◌}
use Rattle.tdl_grid.proofs.Sums.{cycle_read, cycle_counts, cycle_ends_read}
use Rattle.tdl_grid.proofs.SpanArcs.{cycle_span_arc}
use Rattle.tdl_grid.proofs.spans.Span.of_cycle.Goals as goal

pub invariant_of-result : goal.invariant_of-result
invariant_of-result c =
    let near : nat_abs c.args.cycle ≤ 2 ^ 36 = subst (λ (k : ℤ). nat_abs k ≤ 2 ^ 36) c.number.ensures.value c.number.ensures.bound in
    let start = cycle_read _ _ _ c.args.unit c.number.ensures.value c.number.ensures.bound c.count_of.ensures.value in
    let stop = cycle_read _ _ _ c.args.unit (c.number-2.ensures.value ∙ c.later.ensures) c.number-2.ensures.bound c.count_of-2.ensures.value in
    let both = cycle_ends_read c.args.cycle c.count_of.result c.count_of-2.result c.args.unit near c.requires.last c.requires.small start stop in
    rw (both.0, both.1) (cycle_counts c.args.cycle c.args.unit near c.requires.last c.requires.positive c.requires.small)

pub returns-clause-arc : goal.returns-clause-arc
returns-clause-arc c =
    let near : nat_abs c.args.cycle ≤ 2 ^ 36 = subst (λ (k : ℤ). nat_abs k ≤ 2 ^ 36) c.number.ensures.value c.number.ensures.bound in
    let start = cycle_read _ _ _ c.args.unit c.number.ensures.value c.number.ensures.bound c.count_of.ensures.value in
    let stop = cycle_read _ _ _ c.args.unit (c.number-2.ensures.value ∙ c.later.ensures) c.number-2.ensures.bound c.count_of-2.ensures.value in
    let both = cycle_ends_read c.args.cycle c.count_of.result c.count_of-2.result c.args.unit near c.requires.last c.requires.small start stop in
    rw (both.0, both.1) (cycle_span_arc c.args.cycle c.args.unit c.requires.positive)
