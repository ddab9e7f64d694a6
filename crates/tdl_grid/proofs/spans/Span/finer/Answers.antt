use Rattle.tdl_grid.proofs.Scales.{finer_read}
use Rattle.tdl_grid.proofs.spans.Span.finer.Goals as goal

pub invariant_of-result : goal.invariant_of-result
invariant_of-result c =
    let q = c.requires in
    (finer_read c.args.self c.self.inside.start c.self.inside.stop c.args.times c.self.view_is c.self.invariant q.positive q.small q.start q.stop).0

pub returns : goal.returns
returns c =
    let q = c.requires in
    (finer_read c.args.self c.self.inside.start c.self.inside.stop c.args.times c.self.view_is c.self.invariant q.positive q.small q.start q.stop).1
