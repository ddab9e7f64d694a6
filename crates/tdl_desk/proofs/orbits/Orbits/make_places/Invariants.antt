use Rattle.std.proofs.Common.{◌≡◌, ◌-◌, ℕ, get_or, length}
use Rattle.tdl_desk.specs.Fields.{HasRoom, empty_held, value_at}
use Rattle.tdl_desk.proofs.orbits.Orbits.make_places.Given as goal

abbrev pub invariant-loop-alloc : goal.invariant-loop-alloc
invariant-loop-alloc g l =
    ((i cycle : ℕ) → value_at (get_or l.self.fields.items i empty_held) cycle ≡ value_at (get_or l.fn.self.fields.items i empty_held) cycle)
    × ((spare : ℕ) → HasRoom l.fn.self.fields.items spare → HasRoom l.self.fields.items spare)

abbrev pub decreases-loop-alloc : goal.decreases-loop-alloc
decreases-loop-alloc g l = 16 - length l.self.fields.items
