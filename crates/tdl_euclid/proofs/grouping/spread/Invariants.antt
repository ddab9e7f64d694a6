use Rattle.tdl_euclid.proofs.ListLemmas.{IsOnWay, list_count}
use Rattle.tdl_euclid.proofs.grouping.spread.Given as goal

abbrev pub invariant-loop-lists : goal.invariant-loop-lists
invariant-loop-lists l = IsOnWay l.hits l.steps l.lists

abbrev pub decreases-loop-lists : goal.decreases-loop-lists
decreases-loop-lists l = list_count l.lists
