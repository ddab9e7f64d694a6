use Rattle.tdl_control.proofs.ReadLemmas.{above_last}
use Rattle.tdl_control.proofs.maps.Map.is_below.Goals as goal

-- the last key decides
pub returns-else-is_empty : goal.returns-else-is_empty
returns-else-is_empty c =
    above_last _ c.args.key c.entry.result.0 _ _ _ c.entry.ensures.valid.ordered (rw c.len.ensures at c.entry.ensures.found) c.rank.ensures
    c.rank-else-is_empty.ensures
