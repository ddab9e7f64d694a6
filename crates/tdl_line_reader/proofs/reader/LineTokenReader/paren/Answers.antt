use Rattle.tdl_line_reader.proofs.reader.LineTokenReader.paren.Goals as goal

pub returns-in_ok-whole-in-Argument : goal.returns-in_ok-whole-in-Argument
returns-in_ok-whole-in-Argument c = λ t. rw c.in-Argument.is (rw c.in_ok-whole-in-Argument.ensures at (c.made.ensures t))
