use Rattle.std.proofs.Common.{sym}
use Rattle.tdl_grid.proofs.SpanArcs.{met_part}
use Rattle.tdl_grid.proofs.LeafJoins.{leaf_joined}
use Rattle.tdl_grid.proofs.leaf_joins.add_one_with_leaf.Goals as goal

pub invariant_of-other : goal.invariant_of-other
invariant_of-other g c = (met_part c.args.whole c.giver.inside.whole c.in-Some.part (sym c.in-Some.ensures.counts)).0

pub returns-in-Some : goal.returns-in-Some
returns-in-Some g c = λ u k h lasts.
    leaf_joined c.args.rows.now.side c.args.rows.now.op c.args.leaf.now c.args.whole c.args.giver u h k lasts c.in-Some.part
    (rw (← c.giver.view_is) (c.in-Some.ensures.arcs u h))
    c.add_made_of.result _ _ _ _ c.tick.ensures c.add_made_of.ensures
