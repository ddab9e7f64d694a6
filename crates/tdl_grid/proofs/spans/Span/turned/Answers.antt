use Rattle.tdl_grid.proofs.Sums.{turned_read}
use Rattle.tdl_grid.proofs.spans.Span.turned.Goals as goal

pub returns : goal.returns
returns c =
    turned_read c.args.self _ _ c.args.round c.self.view_is c.self.invariant.start_small c.self.invariant.stop_small c.ranges.round c.requires.start c.requires.stop
