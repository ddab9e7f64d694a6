use Rattle.std.proofs.Common.{◌≡◌, ◌<◌, ◌≤◌, ℕ, Option, deque_len, deque_capacity}
use Rattle.tdl_desk.specs.Fields.{Rises, later_on}
use Rattle.tdl_desk.proofs.pending.put.Given as goal

-- below the boundary nothing changes
abbrev pub invariant-loop : goal.invariant-loop
invariant-loop g l = Rises l.pending.items
    × ((value : Option g.row.T.Denot) (cycle : ℕ) → cycle < l.later.boundary
    → later_on value l.pending.items cycle ≡ later_on value l.fn.pending.items cycle)
    × (deque_len l.pending ≤ deque_len l.fn.pending) × (deque_capacity l.pending ≡ deque_capacity l.fn.pending)

abbrev pub decreases-loop : goal.decreases-loop
decreases-loop g l = deque_len l.pending
