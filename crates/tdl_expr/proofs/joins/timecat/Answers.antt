use Rattle.std.proofs.Common.{ℕ, ◌<◌, ◌≤◌, ◌^◌, List, ◌∙◌, sym, subst}
use Rattle.std.specs.List.{All, sum}
use Rattle.tdl_expr.proofs.WeightLemmas.{counts_positive, counts_small}
use Rattle.tdl_expr.proofs.joins.timecat.Goals as goal

pub timecat_of_counts-requires-clause-positive : goal.timecat_of_counts-requires-clause-positive
timecat_of_counts-requires-clause-positive c =
    subst (λ (counts : List ℕ). All (λ count. 0 < count) counts) (sym (c.deref.ensures.value ∙ c.in_ok-counts.ensures))
    (counts_positive c.args.weights.now c.requires.weights.each)

pub timecat_of_counts-requires-clause-sum : goal.timecat_of_counts-requires-clause-sum
timecat_of_counts-requires-clause-sum c =
    subst (λ (counts : List ℕ). sum counts ≤ 2 ^ 40) (sym (c.deref.ensures.value ∙ c.in_ok-counts.ensures))
    (counts_small c.args.weights.now c.requires.weights.each c.requires.weights.share)
