use Rattle.std.proofs.Common.{◌≡◌, ◌≤◌, ℕ, get_or, length}
use Rattle.tdl_desk.specs.Fields.{empty_held, value_at}
use Rattle.tdl_desk.proofs.orbits.Orbits.settle.Given as goal

abbrev pub invariant-loop-field : goal.invariant-loop-field
invariant-loop-field g l = (length l.field-items ≡ length l.fn.self.fields.items)
    × ((i later : ℕ) → l.cycle ≤ later → value_at (get_or l.field-items i empty_held) later ≡ value_at (get_or l.fn.self.fields.items i empty_held) later)
    × ((i : ℕ) → (get_or l.fn.self.fields.items i empty_held).room ≤ (get_or l.field-items i empty_held).room)
