use Rattle.std.proofs.Common.{rules}
use Rattle.tdl_grid.proofs.Roots.{count_is, span_counts, span_is}
use Rattle.tdl_grid.proofs.queries.span_of.Goals as goal

pub count_at-requires-clause-divides : goal.count_at-requires-clause-divides
count_at-requires-clause-divides c = rw c.start.ensures.value c.requires.start

pub count_at-requires-2-clause-divides : goal.count_at-requires-2-clause-divides
count_at-requires-2-clause-divides c = rw c.stop.ensures.value c.requires.stop

pub between-requires : goal.between-requires
between-requires c =
    let a = c.args.arc in
    let u = c.args.unit in
    let r = c.requires in
    span_counts u r.positive r.small a _ _ c.start.ensures.arc (search rules) (search rules)
    (count_is u r.positive r.small a.start _ r.start (search rules)) (count_is u r.positive r.small a.stop _ r.stop (search rules))

pub returns : goal.returns
returns c =
    let a = c.args.arc in
    let u = c.args.unit in
    let r = c.requires in
    span_is u a _ _ _ c.between.ensures (count_is u r.positive r.small a.start _ r.start (search rules))
    (count_is u r.positive r.small a.stop _ r.stop (search rules))
