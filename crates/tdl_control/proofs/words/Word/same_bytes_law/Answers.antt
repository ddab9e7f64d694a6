use Rattle.tdl_control.proofs.WordLemmas.{word_from_bytes}
use Rattle.tdl_control.proofs.words.Word.same_bytes_law.Goals as goal

pub returns : goal.returns
returns c = word_from_bytes c.args.left.now c.args.right.now
