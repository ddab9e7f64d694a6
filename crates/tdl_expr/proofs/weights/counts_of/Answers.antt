use Rattle.tdl_expr.proofs.WeightLemmas.{counts_fit}
use Rattle.tdl_expr.proofs.weights.counts_of.Goals as goal

pub all_scaled-requires : goal.all_scaled-requires
all_scaled-requires c = rw c.common_denominator.ensures (counts_fit c.args.weights.now c.requires.each c.requires.share)
