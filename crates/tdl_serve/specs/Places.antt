-- A list with room for more.
use Rattle.std.specs.Prelude.{ℕ, List, length}
use Rattle.std.specs.List.{refill}

pub record Places (A : Type 0) : Type 0 where
  pub items : List A
  -- for so many items more it takes no memory
  pub spare : ℕ

-- the same places with other items. Where there are more of them or fewer they are cut, or filled up from those before,
-- so that the length stays
abbrev pub with_items : {A : Type 0} → Places A → List A → Places A
with_items places items = record places { items = refill (length places.items) places.items items }
