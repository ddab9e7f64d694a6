-- One thing of an orbit that changes from cycle to cycle, as the desk keeps it.
--     Held         what it is, what comes later with rising boundaries, and for how many changes more there is room
--     empty_held   nothing, and no room
--     value_at     what it is at a cycle: what came last by then
--     Rises        each boundary is above those before it
--     held_at      what it is at an orbit; orbit 1 stands first
--     HasRoom      each orbit has a place once there is room, and room for so many changes
use Rattle.std.specs.Prelude.{◌≤◌, ◌<◌, ◌-◌, ℕ, nat_le, if◌then◌else◌, Option, None, List, [], ◌∷◌, get_or, length}
use Rattle.std.specs.List.{AllByRecursion}
use Rattle.tdl_control.specs.Limits.{max_orbit}
use Rattle.tdl_desk.specs.declared.fields.Later.{Later}

pub record Held (T : Type 0) : Type 0 where
  pub present : Option T
  pub pending : List (Later T)
  pub room : ℕ

abbrev pub empty_held : {T : Type 0} → Held T
empty_held = record { present = None; pending = []; room = 0 }

abbrev pub later_on : {T : Type 0} → Option T → List (Later T) → ℕ → Option T
later_on value [] cycle = value
later_on value (later ∷ pending) cycle = later_on (if nat_le later.boundary cycle then later.value else value) pending cycle

abbrev pub value_at : {T : Type 0} → Held T → ℕ → Option T
value_at held cycle = later_on held.present held.pending cycle

abbrev pub Rises : {T : Type 0} → List (Later T) → Type 0
Rises [] = Unit {0}
Rises (later ∷ pending) = AllByRecursion (λ other. later.boundary < other.boundary) pending × Rises pending

abbrev pub held_at : {T : Type 0} → List (Held T) → ℕ → ℕ → Option T
held_at fields orbit cycle = value_at (get_or fields (orbit - 1) empty_held) cycle

pub record HasRoom {T : Type 0} (fields : List (Held T)) (spare : ℕ) : Type 0 where
  pub placed : 0 < spare → max_orbit ≤ length fields
  pub room : (i : ℕ) → i < length fields → spare ≤ (get_or fields i empty_held).room
