use Rattle.std.proofs.Common.{sym}
use Rattle.tdl_agenda.proofs.Turns.{below-earlier, below-same, below-later}
use Rattle.tdl_agenda.proofs.items.Item.is_below.Goals as goal

pub returns-in-Less : goal.returns-in-Less
returns-in-Less c = sym (below-earlier c.args.self.now c.args.other.now (c.compare.ensures.less.0 c.in-Less.is))

pub returns-in-Equal : goal.returns-in-Equal
returns-in-Equal c = sym (below-same c.args.self.now c.args.other.now (c.compare.ensures.equal.0 c.in-Equal.is))

pub returns-in-Greater : goal.returns-in-Greater
returns-in-Greater c = sym (below-later c.args.self.now c.args.other.now (c.compare.ensures.greater.0 c.in-Greater.is))
