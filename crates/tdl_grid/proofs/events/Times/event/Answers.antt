use Rattle.std.proofs.Common.{sym, ap, ◌∙◌, subst}
use Rattle.tdl_fraction.specs.Arc.{Arc, IsInside}
use Rattle.tdl_fraction.proofs.Order.{frac-le}
use Rattle.tdl_fraction.proofs.Arcs.{inside_self}
use Rattle.tdl_grid.specs.Span.{arc_of}
use Rattle.tdl_grid.proofs.events.Times.event.Goals.{then-all, else-all}
use Rattle.tdl_grid.proofs.events.Times.event.Goals as goal

pub invariant_of-result : goal.invariant_of-result
invariant_of-result c =
    let u = c.args.self.now in
    elim c.if-all.branch [
      | then-all w ↦ subst (λ (a : Arc). IsInside c.arc-part.result a) (sym w.whole-is) (inside_self c.arc-part.result)
      | else-all w ↦
          let part = c.item.invariant in
          let positive = c.arc-part.ensures.positive in
          let inside : IsInside (arc_of u c.item.inside.part) (arc_of u c.item.inside.whole) = (
            (frac-le c.item.inside.whole.start c.item.inside.part.start u positive).0 part.0,
            (frac-le c.item.inside.part.stop c.item.inside.whole.stop u positive).0 part.1,
          ) in
          let is = w.whole-is ∙ w.arc-whole.ensures.value ∙ ap (λ k. arc_of k c.item.inside.whole) c.arc-part.ensures.unit in
          subst (λ (a : Arc). IsInside c.arc-part.result a) (sym is)
          (subst (λ (a : Arc). IsInside a (arc_of u c.item.inside.whole)) (sym c.arc-part.ensures.value) inside)
    ]
