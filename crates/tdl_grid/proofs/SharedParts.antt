-- What two items share lies in the whole that they make.
use Rattle.std.proofs.Common.{◌≡◌, ◌<◌, Some, option_map, sym, arith}
use Rattle.tdl_fraction.specs.Arc.{IsInside, meet}
use Rattle.tdl_fraction.proofs.Order.{frac-le}
use Rattle.tdl_expr.specs.declared.joinings.Side.{Side}
use Rattle.tdl_meaning.specs.Kinds.{shared_whole}
use Rattle.tdl_meaning.proofs.kinds.Join.{part_in_shared}
use Rattle.tdl_grid.specs.Span.{Span, IsPartOf, arc_of}
use Rattle.tdl_grid.proofs.SpanArcs.{part_from_inside}

pub one : 0 < 1
one = omega arith

inside : (p w : Span) → IsPartOf p w → IsInside (arc_of 1 p) (arc_of 1 w)
inside p w h = ((frac-le w.start p.start 1 one).0 h.0, (frac-le p.stop w.stop 1 one).0 h.1)

-- the part lies in the whole, as it does in times
pub part_in_whole : (side : Side) (lw lp rw rp w p : Span) → IsPartOf lp lw → IsPartOf rp rw
    → option_map (arc_of 1) (Some w) ≡ shared_whole side (arc_of 1 lw) (arc_of 1 rw)
    → option_map (arc_of 1) (Some p) ≡ meet (arc_of 1 lp) (arc_of 1 rp) → IsPartOf p w
part_in_whole side lw lp rw rp w p in_l in_r whole part =
    part_from_inside 1 p w one
    (part_in_shared side (arc_of 1 lw) (arc_of 1 lp) (arc_of 1 rw) (arc_of 1 rp) (arc_of 1 w) (arc_of 1 p) (inside lp lw in_l) (inside rp rw in_r) (sym whole)
    (sym part))
