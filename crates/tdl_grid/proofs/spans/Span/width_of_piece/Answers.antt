use Rattle.std.proofs.Common.{◌<◌, ◌^◌, arith}
use Rattle.tdl_grid.proofs.Widths.{width_passed}
use Rattle.tdl_grid.proofs.spans.Span.width_of_piece.Goals as goal

pub returns-clause-value : goal.returns-clause-value
returns-clause-value c =
    let span = c.stop.ensures.span in
    let small : c.args.times < 2 ^ 127 = omega (arith, c.ranges.times.fits) in
    width_passed c.args.self.start c.args.self.stop _ _ c.args.times c.start.ensures.value c.stop.ensures.value span.start_small span.stop_small
    c.requires.some small c.requires.exact.exact
