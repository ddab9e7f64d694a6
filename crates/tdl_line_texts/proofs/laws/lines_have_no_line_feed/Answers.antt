use Rattle.tdl_command.specs.Tree.{line}
use Rattle.tdl_line_machine.specs.declared.goals.Goal.TheVariants.{Line as a_line}
use Rattle.tdl_line_texts.proofs.LineFeeds.{whole_line}
use Rattle.tdl_line_texts.proofs.laws.lines_have_no_line_feed.Goals as goal

pub returns : goal.returns
returns c = λ text l. whole_line a_line text (line l)
