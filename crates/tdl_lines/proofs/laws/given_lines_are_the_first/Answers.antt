use Rattle.tdl_lines.proofs.ReadingLemmas.{some_given}
use Rattle.tdl_lines.proofs.laws.given_lines_are_the_first.Goals as goal

pub returns : goal.returns
returns c = λ reading taken given. some_given reading taken given
