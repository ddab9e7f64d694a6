use Rattle.tdl_mini.proofs.FlatTexts.{flat_reading, flat_tree}
use Rattle.tdl_mini.proofs.laws.flat_texts_have_flat_trees.Goals as goal

pub returns : goal.returns
returns c = record { read = flat_reading; tree = flat_tree }
