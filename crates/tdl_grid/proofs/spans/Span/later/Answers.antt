use Rattle.tdl_grid.proofs.Sums.{later_read}
use Rattle.tdl_grid.proofs.spans.Span.later.Goals as goal

pub returns : goal.returns
returns c =
    later_read c.args.self _ _ c.args.by c.self.view_is c.self.invariant.start_small c.self.invariant.stop_small c.ranges.by c.requires.start c.requires.stop
