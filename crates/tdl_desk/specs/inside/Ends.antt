-- The ends of a list of what comes later.
--     first_is_due     the first has come by this cycle
--     last_is_from     the last comes at this boundary or after it
use Rattle.std.specs.Prelude.{ℕ, nat_le, Bool, false, List, [], ◌∷◌}
use Rattle.tdl_desk.specs.declared.fields.Later.{Later}

abbrev pub first_is_due : {T : Type 0} → List (Later T) → ℕ → Bool
first_is_due [] cycle = false
first_is_due (later ∷ pending) cycle = nat_le later.boundary cycle

abbrev pub last_from : {T : Type 0} → Bool → List (Later T) → ℕ → Bool
last_from found [] boundary = found
last_from found (later ∷ pending) boundary = last_from (nat_le boundary later.boundary) pending boundary

abbrev pub last_is_from : {T : Type 0} → List (Later T) → ℕ → Bool
last_is_from pending boundary = last_from false pending boundary
