use Rattle.std.proofs.Common.{◌<◌, ◌^◌, ap, ap₂, ◌∙◌, arith}
use Rattle.tdl_grid.specs.Span.{arc_of}
use Rattle.tdl_grid.proofs.Sums.{ends}
use Rattle.tdl_grid.proofs.SpanArcs.{span_piece}
use Rattle.tdl_grid.proofs.Widths.{piece_counts, piece_start, piece_fits, piece_stop}
use Rattle.tdl_grid.proofs.spans.Span.piece.Goals as goal

pub overflow_add-start-2 : goal.overflow_add-start-2
overflow_add-start-2 c =
    let s = c.args.self in
    let span = c.start.ensures.span in
    let small : c.args.times < 2 ^ 127 = omega (arith, c.ranges.times.fits) in
    piece_fits s.start s.stop c.args.width c.start.result c.args.times c.args.j c.start.ensures.value span.ordered span.start_small span.stop_small
    c.ranges.width c.requires.below small c.requires.width

pub between-requires : goal.between-requires
between-requires c =
    let s = c.args.self in
    let span = c.start.ensures.span in
    let small : c.args.times < 2 ^ 127 = omega (arith, c.ranges.times.fits) in
    let start = piece_start s.start s.stop c.args.width c.start.result c.args.times c.args.j c.start.ensures.value span.ordered span.start_small span.stop_small
    c.ranges.width c.requires.below small c.requires.width in
    let stop = piece_stop s.start s.stop c.args.width c.start.result c.args.times c.args.j c.start.ensures.value span.ordered span.start_small span.stop_small
    c.ranges.width c.requires.below small c.requires.width in
    rw (stop, start) (piece_counts s.start s.stop c.args.width c.args.times c.args.j span.ordered span.start_small span.stop_small c.requires.width
    c.requires.below)

pub returns-clause-counts : goal.returns-clause-counts
returns-clause-counts c =
    let s = c.args.self in
    let span = c.start.ensures.span in
    let small : c.args.times < 2 ^ 127 = omega (arith, c.ranges.times.fits) in
    let start = piece_start s.start s.stop c.args.width c.start.result c.args.times c.args.j c.start.ensures.value span.ordered span.start_small span.stop_small
    c.ranges.width c.requires.below small c.requires.width in
    let stop = piece_stop s.start s.stop c.args.width c.start.result c.args.times c.args.j c.start.ensures.value span.ordered span.start_small span.stop_small
    c.ranges.width c.requires.below small c.requires.width in
    c.between.ensures ∙ ap₂ ends start stop

pub returns-clause-arcs : goal.returns-clause-arcs
returns-clause-arcs c =
    let some : 0 < c.args.times = omega (arith, c.requires.below) in
    λ u h. ap (arc_of u) (returns-clause-counts c) ∙ span_piece u c.args.times h some c.args.width c.args.self c.args.j c.requires.width
