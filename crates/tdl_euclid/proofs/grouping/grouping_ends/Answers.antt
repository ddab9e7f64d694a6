use Rattle.std.proofs.Common.{arith}
use Rattle.tdl_euclid.specs.Euclid.{first_lists}
use Rattle.tdl_euclid.proofs.ListLemmas.{can_regroup-grouped, list_count-first}
use Rattle.tdl_euclid.proofs.grouping.grouping_ends.Goals as goal

pub returns : goal.returns
returns c = λ hits steps h. can_regroup-grouped steps (first_lists hits steps) (omega (arith, list_count-first hits steps h))
