-- A seat as its holder sees it.
use Rattle.std.specs.Prelude.{◌≡◌, ℕ, ◌⊎◌, List, [], ◌∷◌, ◌++◌, Bool, false, Option, Some}
use Rattle.atomic_table.specs.Seated.{TableId}
use Rattle.tdl_turn.specs.declared.view.Mark.{Mark}

pub record Sitter (E F : Type 0) : Type 0 where
  pub table : TableId
  pub fixed : Option F
  pub number : ℕ
  -- the numbers that it stands for and for which a seat was made
  pub made : List ℕ
  -- it gives the numbers from here to 8, or none where this is 9
  pub next : ℕ
  pub seen : List E
  -- what its last join put together
  pub left : Mark E
  pub right : Mark E
  pub holds : Bool

abbrev pub no_mark : {E : Type 0} → Mark E
no_mark = record { list = []; numbers = [] }

module _ {E F : Type 0} where
  -- the seat is one of this turn
  abbrev pub IsOf : TableId × F → Sitter E F → Type 0
  IsOf turn s = (s.table ≡ turn.0) × (s.fixed ≡ Some turn.1)

  abbrev pub SameSitter : Sitter E F → Sitter E F → Type 0
  SameSitter s t = (t.table ≡ s.table) × (t.fixed ≡ s.fixed) × (t.number ≡ s.number) × (t.made ≡ s.made) × (t.next ≡ s.next)

  -- the seat of a new turn
  abbrev pub first_sitter : TableId → F → Sitter E F
  first_sitter table f = record {
    table = table;
    fixed = Some f;
    number = 0;
    made = 0 ∷ [];
    next = 1;
    seen = [];
    left = no_mark;
    right = no_mark;
    holds = false;
  }

  -- the history is what the seat has seen, or that with one entry of its number more
  abbrev pub MayAdd : (E → ℕ) → List E → Sitter E F → Type 0
  MayAdd by history s = (history ≡ s.seen) ⊎ ((e : E) × (history ≡ s.seen ++ e ∷ []) × (by e ≡ s.number))
