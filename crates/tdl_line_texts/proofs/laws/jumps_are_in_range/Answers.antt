use Rattle.tdl_command.specs.Tree.{line, jump}
use Rattle.tdl_line_machine.specs.declared.goals.Goal.TheVariants.{Line as a_line}
use Rattle.tdl_line_texts.proofs.KeptTexts.{kept_whole}
use Rattle.tdl_line_texts.proofs.laws.jumps_are_in_range.Goals as goal

pub returns : goal.returns
returns c = λ text orbit every e h. let kept = kept_whole a_line text (line (jump orbit every e)) h in (kept.1.0, kept.1.1.1.0)
