use Rattle.std.proofs.Common.{◌≡◌, ◌≤◌, ◌<◌, ℕ, get_or, length}
use Rattle.tdl_desk.specs.Fields.{empty_held, value_at}
use Rattle.tdl_desk.proofs.orbits.Orbits.make_room.Given as goal

-- those before this place have the room
abbrev pub invariant-loop-field : goal.invariant-loop-field
invariant-loop-field g l = (length l.field-items ≡ length l.initial.field-items)
    × ((i cycle : ℕ) → value_at (get_or l.field-items i empty_held) cycle ≡ value_at (get_or l.initial.field-items i empty_held) cycle)
    × ((i : ℕ) → (get_or l.initial.field-items i empty_held).room ≤ (get_or l.field-items i empty_held).room)
    × ((i : ℕ) → i < l.field-index → l.n ≤ (get_or l.field-items i empty_held).room)
