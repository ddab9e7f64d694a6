use Rattle.std.proofs.Common.{refl, sym, subst}
use Rattle.std.proofs.lemmas.Result.{on_ok_weaker}
use Rattle.tdl_fraction.specs.Arc.{Arc, IsInside}
use Rattle.tdl_grid.specs.Span.{cycle_span, arc_of}
use Rattle.tdl_grid.proofs.SpanArcs.{cycle_span_arc, part_from_inside}
use Rattle.tdl_grid.proofs.Moved.{adds_leaf}
use Rattle.tdl_grid.proofs.leaves.add_leaf.Goals as goal

pub invariant_of-push : goal.invariant_of-push
invariant_of-push c =
    let a = c.args in
    let inside : IsInside (arc_of a.unit a.arc) (arc_of a.unit (cycle_span a.unit a.cycle)) =
    subst (λ (b : Arc). IsInside (arc_of a.unit a.arc) b) (sym (cycle_span_arc a.cycle a.unit c.requires.positive)) c.requires.inside in
    rw c.of_cycle-whole.ensures.counts (part_from_inside a.unit a.arc (cycle_span a.unit a.cycle) c.requires.positive inside)

pub returns : goal.returns
returns c =
    let a = c.args in
    on_ok_weaker _
    (λ pushed. adds_leaf a.unit a.out.now _ c.of_cycle-whole.result a.arc a.leaf.now a.leaf.now a.cycle pushed c.of_cycle-whole.ensures.arc refl
    c.requires.arc c.requires.inside)
    c.push.ensures.ok
