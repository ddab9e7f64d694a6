use Rattle.std.proofs.Common.{ℕ, ◌*◌, ◌/◌, ◌^◌, ◌≤◌, nat_abs, pos, ap, ◌∙◌, subst, arith}
use Rattle.std.specs.Int.{div_ceil}
use Rattle.std.proofs.Math.Nat.{mul-pos}
use Rattle.tdl_grid.proofs.Sums.{cycle_read}
use Rattle.tdl_grid.proofs.PassedCounts.{ends_inside, since, since_read, ended_counts, begun_counts, few_ended_counts, few_begun_counts}
use Rattle.tdl_grid.proofs.passed.PassedSteps.of.Goals as goal

pub overflow_cast-start : goal.overflow_cast-start
overflow_cast-start c =
    let a = c.args in
    let q = c.requires in
    let first = subst (λ n. nat_abs n ≤ 2 ^ 36) c.number.ensures.value c.number.ensures.bound in
    let begin = cycle_read _ _ _ (a.width * a.total) c.number.ensures.value c.number.ensures.bound c.count_of-begin.ensures.value in
    let ends = ends_inside a.cycle (a.width * a.total) a.arc (mul-pos q.width q.some) c.start.ensures.span.ordered q.inside in
    let read = since_read a.cycle a.arc.start a.total a.width q.some q.width q.inside.0 ends.0 _ _ c.start.ensures.value begin
    c.start.ensures.span.start_small first q.small in
    let k = since a.cycle a.arc.start a.total a.width q.some q.width q.inside.0 ends.0 in
    rw read (search (k.1, q.small, arith))

pub overflow_cast-stop : goal.overflow_cast-stop
overflow_cast-stop c =
    let a = c.args in
    let q = c.requires in
    let first = subst (λ n. nat_abs n ≤ 2 ^ 36) c.number.ensures.value c.number.ensures.bound in
    let begin = cycle_read _ _ _ (a.width * a.total) c.number.ensures.value c.number.ensures.bound c.count_of-begin.ensures.value in
    let ends = ends_inside a.cycle (a.width * a.total) a.arc (mul-pos q.width q.some) c.start.ensures.span.ordered q.inside in
    let read = since_read a.cycle a.arc.stop a.total a.width q.some q.width ends.1 q.inside.1 _ _ c.stop.ensures.value begin
    c.stop.ensures.span.stop_small first q.small in
    let k = since a.cycle a.arc.stop a.total a.width q.some q.width ends.1 q.inside.1 in
    rw read (search (k.1, q.small, arith))

pub overflow_cast-result : goal.overflow_cast-result
overflow_cast-result c =
    let a = c.args in
    let q = c.requires in
    let first = subst (λ n. nat_abs n ≤ 2 ^ 36) c.number.ensures.value c.number.ensures.bound in
    let begin = cycle_read _ _ _ (a.width * a.total) c.number.ensures.value c.number.ensures.bound c.count_of-begin.ensures.value in
    let ends = ends_inside a.cycle (a.width * a.total) a.arc (mul-pos q.width q.some) c.start.ensures.span.ordered q.inside in
    let read = since_read a.cycle a.arc.start a.total a.width q.some q.width q.inside.0 ends.0 _ _ c.start.ensures.value begin
    c.start.ensures.span.start_small first q.small in
    let few = few_ended_counts a.cycle a.arc.start a.total a.width q.some q.width q.inside.0 ends.0 in
    rw read (search (few, q.few, arith))

pub overflow_cast-result-2 : goal.overflow_cast-result-2
overflow_cast-result-2 c =
    let a = c.args in
    let q = c.requires in
    let first = subst (λ n. nat_abs n ≤ 2 ^ 36) c.number.ensures.value c.number.ensures.bound in
    let begin = cycle_read _ _ _ (a.width * a.total) c.number.ensures.value c.number.ensures.bound c.count_of-begin.ensures.value in
    let ends = ends_inside a.cycle (a.width * a.total) a.arc (mul-pos q.width q.some) c.start.ensures.span.ordered q.inside in
    let read = since_read a.cycle a.arc.stop a.total a.width q.some q.width ends.1 q.inside.1 _ _ c.stop.ensures.value begin
    c.stop.ensures.span.stop_small first q.small in
    let few = few_begun_counts a.cycle a.arc.stop a.total a.width q.some q.width ends.1 q.inside.1 in
    let up = c.div_ceil.ensures ∙ ap (λ n. div_ceil (nat_abs n) a.width) read in
    rw up (search (few, q.few, arith))

pub returns : goal.returns
returns c =
    let a = c.args in
    let q = c.requires in
    let first = subst (λ n. nat_abs n ≤ 2 ^ 36) c.number.ensures.value c.number.ensures.bound in
    let begin = cycle_read _ _ _ (a.width * a.total) c.number.ensures.value c.number.ensures.bound c.count_of-begin.ensures.value in
    let ends = ends_inside a.cycle (a.width * a.total) a.arc (mul-pos q.width q.some) c.start.ensures.span.ordered q.inside in
    let read = since_read a.cycle a.arc.start a.total a.width q.some q.width q.inside.0 ends.0 _ _ c.start.ensures.value begin
    c.start.ensures.span.start_small first q.small in
    let read_stop = since_read a.cycle a.arc.stop a.total a.width q.some q.width ends.1 q.inside.1 _ _ c.stop.ensures.value begin
    c.stop.ensures.span.stop_small first q.small in
    let up = c.div_ceil.ensures ∙ ap (λ n. div_ceil (nat_abs n) a.width) read_stop in
    record {
      start = ap (λ n. pos (nat_abs n / a.width)) read ∙ ended_counts a.cycle a.arc.start a.total a.width q.some q.width q.inside.0 ends.0;
      stop = ap (λ (n : ℕ). pos n) up ∙ begun_counts a.cycle a.arc.stop a.total a.width q.some q.width ends.1 q.inside.1;
    }
