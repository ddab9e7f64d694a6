use Rattle.tdl_line_reader.proofs.reader.LineTokenReader.called.Goals as goal

pub returns-in-Whole : goal.returns-in-Whole
returns-in-Whole c = λ t. rw c.in-Whole.is (c.made.ensures t)
