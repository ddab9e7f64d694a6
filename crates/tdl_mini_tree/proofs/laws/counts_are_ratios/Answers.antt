use Rattle.tdl_mini_tree.proofs.CountRatio.{valid_ratio}
use Rattle.tdl_mini_tree.proofs.laws.counts_are_ratios.Goals as goal

pub returns : goal.returns
returns c = valid_ratio
