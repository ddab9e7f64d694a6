use Rattle.std.proofs.Common.{◌≡◌, ◌≤◌, ◌<◌, ◌+◌, ℕ, None, nat_le, if◌then◌else◌, get_or, length}
use Rattle.tdl_desk.specs.Fields.{empty_held, value_at}
use Rattle.tdl_desk.proofs.orbits.Orbits.clear.Given as goal

-- those before this place are cleared, the others are as they were
abbrev pub invariant-loop-field : goal.invariant-loop-field
invariant-loop-field g l = (length l.field-items ≡ length l.fn.self.fields.items)
    × ((i cycle : ℕ) → i < l.field-index → l.settled ≤ cycle → value_at (get_or l.field-items i empty_held) cycle
    ≡ (if nat_le l.boundary cycle then None else value_at (get_or l.fn.self.fields.items i empty_held) cycle))
    × ((i : ℕ) → l.field-index ≤ i → get_or l.field-items i empty_held ≡ get_or l.fn.self.fields.items i empty_held)
    × ((i : ℕ) → (get_or l.fn.self.fields.items i empty_held).room ≤ (get_or l.field-items i empty_held).room + 1)
