use Rattle.std.proofs.Common.{◌≡◌, ◌≤◌, ℕ, length, deque_len, deque_capacity}
use Rattle.tdl_desk.specs.Fields.{Rises, later_on}
use Rattle.tdl_desk.proofs.pending.settle_in.Given as goal

-- from the cycle on nothing changes
abbrev pub invariant-loop-later : goal.invariant-loop-later
invariant-loop-later g l = Rises l.pending.items
    × ((later : ℕ) → l.cycle ≤ later → later_on l.present l.pending.items later ≡ later_on l.fn.present l.fn.pending.items later)
    × (deque_len l.pending ≤ deque_len l.fn.pending) × (deque_capacity l.pending ≡ deque_capacity l.fn.pending)

abbrev pub decreases-loop-later : goal.decreases-loop-later
decreases-loop-later g l = length l.pending.items
