use Rattle.std.proofs.Common.{sym}
use Rattle.tdl_control.proofs.PlaceLemmas.{lookup_read, lookup_in_gap}
use Rattle.tdl_control.proofs.maps.Map.get.Goals as goal

-- the key's entry is at its place
pub returns-in-Ok-clause-found : goal.returns-in-Ok-clause-found
returns-in-Ok-clause-found c =
    rw (← c.self.view_is, ← c.index-deref-at.is)
    (lookup_read c.self.inside.entries.items c.args.key c.in-Ok.at c.index-deref-at.result c.self.invariant.ordered
    (rw c.self.view_is c.in-Ok.ensures.found) (rw c.deref.ensures at c.index-deref-at.is))

-- the key has a gap
pub returns-in-Err-clause-found : goal.returns-in-Err-clause-found
returns-in-Err-clause-found c = sym (lookup_in_gap _ _ _ c.in-Err.ensures.absent)
