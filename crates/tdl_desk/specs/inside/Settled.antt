-- The desk of the places.
--     desk_at       at a cycle
--     HasRoomFor    each list has room for so many changes
use Rattle.std.specs.Prelude.{ℕ}
use Rattle.tdl_desk.specs.declared.places.Places.{Places}
use Rattle.tdl_desk.specs.Desk.{Desk}
use Rattle.tdl_desk.specs.Kept.{IsKept, desk_of}

abbrev pub desk_at : {P : Type 0} → Places P → ℕ → Desk P
desk_at p cycle = desk_of p.patterns.fields.items p.muted.fields.items p.soloed.fields.items cycle

abbrev pub HasRoomFor : {P : Type 0} → Places P → ℕ → Type 0
HasRoomFor p spare = IsKept p.patterns.fields.items p.muted.fields.items p.soloed.fields.items spare
