use Rattle.std.proofs.Common.{ap, sym, ◌∙◌, option_map}
use Rattle.tdl_grid.specs.Span.{arc_of}
use Rattle.tdl_grid.proofs.Sums.{meet_read}
use Rattle.tdl_grid.proofs.SpanArcs.{spans_met}
use Rattle.tdl_grid.proofs.spans.Span.meet.Goals as goal

pub returns-clause-counts : goal.returns-clause-counts
returns-clause-counts c =
    let one = c.self.invariant in
    let other = c.other.invariant in
    c.of.ensures
    ∙ meet_read c.args.self c.args.other _ _ _ _ _ _ c.self.view_is c.other.view_is one.start_small one.stop_small other.start_small other.stop_small
    c.max-start.ensures.value c.min-stop.ensures.value

pub returns-clause-arcs : goal.returns-clause-arcs
returns-clause-arcs c = λ u h. ap (option_map (arc_of u)) (returns-clause-counts c) ∙ sym (spans_met u c.args.self c.args.other h)
