use Rattle.std.proofs.Common.{rules}
use Rattle.std.proofs.lemmas.List.Sorted.{answers_always}
use Rattle.tdl_control.specs.Key.{rank}
use Rattle.tdl_control.proofs.PlaceLemmas.{searched}
use Rattle.tdl_control.proofs.maps.Map.place.Goals as goal

-- the closure gives an entry's rank, and the slice is the map's entries
pub returns : goal.returns
returns c =
    let facts = c.binary_search_by_key.ensures in
    let by_rank = facts.position (λ entry. rank entry.key) (answers_always _ _ _ (λ f a r g called. search rules)) in
    rw (← c.self.view_is, ← c.deref.ensures)
    (searched _ (rw c.deref.ensures c.self.invariant.ordered) c.args.key _ facts.bound (rw c.rank.ensures at by_rank))
