-- What a seat's token knows, as the seat's holder sees it.
use Rattle.std.specs.Prelude.{◌≡◌, ℕ, ◌⊎◌, [], ◌∷◌, Bool, true, false, Option, None}
use Rattle.atomic_table.specs.Table.{Me}
use Rattle.atomic_table.specs.Seated.{TableId}
use Rattle.atomic_table.specs.declared.shared.Seat.{Seat}
use Rattle.tdl_turn.specs.declared.view.View.{View}
use Rattle.tdl_turn.specs.declared.view.Stage.{Stage}
use Rattle.tdl_turn.specs.declared.view.Stage.TheVariants.{Idle, Waiting, Holding, Learned, Out}
use Rattle.tdl_turn.specs.Numbers.{Among}
use Rattle.tdl_turn.specs.Sitters.{Sitter}

abbrev pub is_out : Stage → Bool
is_out Idle = false
is_out (Waiting t) = false
is_out (Holding t) = false
is_out (Learned t) = false
is_out (Out t) = true

abbrev pub Sat : Type 0 → Type 0 → Type 0 → Type 0
Sat X E F = Me (Option X) (View E F)

module _ {X E F : Type 0} where
  abbrev pub sitter_of : TableId → Sat X E F → Sitter E F
  sitter_of table m =
      record {
        table = table;
        fixed = m.0.fixed;
        number = m.0.number;
        made = m.0.made;
        next = m.0.next;
        seen = m.0.seen;
        left = m.0.left;
        right = m.0.right;
        holds = is_out m.0.stage;
      }

  -- the seat holds no turn, or it has the value's slot, which is empty
  abbrev pub Settled : Sat X E F → Type 0
  Settled m = ((m.0.stage ≡ Idle) × (m.1 ≡ [])) ⊎ ((t : ℕ) × (m.0.stage ≡ Out t) × (m.1 ≡ (0, None) ∷ []))

  -- a seat between calls
  abbrev pub Rests : Sat X E F → Type 0
  Rests m = Among m.0.number m.0.made × Settled m

abbrev pub sitter : {X E F : Type 0} → Seat (Option X) (View E F) → Sitter E F
sitter p = sitter_of p.table_id p.me

-- three words and one slot
abbrev pub IsBoard : TableId → Type 0
IsBoard table = (table.words ≡ 3) × (table.slots ≡ 1)
