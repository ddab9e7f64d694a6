use Rattle.tdl_line_reader.proofs.reader.LineTokenReader.take_fun_name.Goals as goal

pub returns-in-Bare : goal.returns-in-Bare
returns-in-Bare c = λ t. rw c.in-Bare.is (c.made.ensures t)
