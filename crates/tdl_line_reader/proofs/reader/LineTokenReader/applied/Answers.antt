use Rattle.tdl_line_reader.proofs.ReaderFacts.{none_left}
use Rattle.tdl_line_reader.proofs.reader.LineTokenReader.applied.Goals as goal

pub returns-clause-empty : goal.returns-clause-empty
returns-clause-empty c =
    none_left c.pop.result c.loop-pending.self.level.len c.pop.new.self.len c.pop.new.self.items c.pop.ensures.cases c.pop.new.self.ok.0 c.in_default.not-Some
