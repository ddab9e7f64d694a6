use Rattle.tdl_log.proofs.WalkSteps.{entry_stands, if_none_weaker, if_some_weaker, no_ends, no_entry_stands, short_frontier}
use Rattle.tdl_log.proofs.walks.Walk.next_entry.Goals as goal

pub read_entry-requires : goal.read_entry-requires
read_entry-requires g c = short_frontier g.R.Reader.reads c.args.self.now c.requires

pub returns-clause-some : goal.returns-clause-some
returns-clause-some g c =
    if_some_weaker _ _ c.read_entry.result (λ e read. entry_stands g.R.Reader.reads c.args.self.now c.requires e c.args.line.now
    (no_ends c.args.self.now.sheet.ends c.is_empty.result c.is_empty.ensures c.if-not-is_empty.false) read) c.read_entry.ensures.some

pub returns-clause-none : goal.returns-clause-none
returns-clause-none g c =
    if_none_weaker _ _ c.read_entry.result (λ none. no_entry_stands g.R.Reader.reads c.args.self.now c.requires c.args.line.now none) c.read_entry.ensures.none
