use Rattle.tdl_grid.proofs.Sums.{earlier_read}
use Rattle.tdl_grid.proofs.spans.Span.earlier.Goals as goal

pub returns : goal.returns
returns c =
    earlier_read c.args.self _ _ c.args.by c.self.view_is c.self.invariant.start_small c.self.invariant.stop_small c.ranges.by c.requires.start c.requires.stop
