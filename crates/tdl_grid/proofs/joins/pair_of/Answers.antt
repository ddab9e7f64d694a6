use Rattle.tdl_grid.proofs.SharedParts.{one, part_in_whole}
use Rattle.tdl_grid.proofs.joins.pair_of.Goals as goal

pub invariant_of-result : goal.invariant_of-result
invariant_of-result c =
    let l = c.left.inside in
    let r = c.right.inside in
    part_in_whole c.args.side l.whole l.part r.whole r.part c.in-Some-shared_span.whole c.in-Some.part c.left.invariant c.right.invariant
    (c.in-Some-shared_span.ensures 1 one) (c.in-Some.ensures.arcs 1 one)
