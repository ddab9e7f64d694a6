-- The views of seats, as the steps change them.
use Rattle.std.specs.Prelude.{◌≡◌, ℕ, ◌+◌, min, List, [], ◌∷◌, ◌++◌, length, Some, None}
use Rattle.tdl_turn.specs.Tokens.{Sat}
use Rattle.tdl_turn.specs.declared.view.View.{View}
use Rattle.tdl_turn.specs.declared.view.Mark.{Mark}
use Rattle.tdl_turn.specs.declared.view.Stage.{Stage}
use Rattle.tdl_turn.specs.declared.view.Stage.TheVariants.{Idle, Waiting, Holding, Learned, Out}
use Rattle.tdl_turn.specs.Numbers.{longer}
use Rattle.tdl_turn.specs.Sitters.{no_mark}

abbrev pub tickets_at : Stage → ℕ
tickets_at Idle = 0
tickets_at (Waiting t) = 1
tickets_at (Holding t) = 1
tickets_at (Learned t) = 1
tickets_at (Out t) = 1

abbrev pub ticket_of : Stage → ℕ
ticket_of Idle = 0
ticket_of (Waiting t) = t
ticket_of (Holding t) = t
ticket_of (Learned t) = t
ticket_of (Out t) = t

module _ {E F : Type 0} where
  abbrev pub tickets : View E F → ℕ
  tickets v = tickets_at v.stage

  -- how many seats were made of those that the view stands for
  abbrev pub width : View E F → ℕ
  width v = length v.made

  abbrev pub staged : View E F → Stage → List E → View E F
  staged v stage seen = record v { stage = stage; seen = seen }

  abbrev pub at_stage : View E F → Stage → View E F
  at_stage v stage = staged v stage v.seen

  abbrev pub with_entries : View E F → List E → View E F
  with_entries v seen = record v { seen = seen; left = no_mark; right = no_mark }

  abbrev pub first_view : F → View E F
  first_view f = record { number = 0; made = 0 ∷ []; next = 1; stage = Idle; seen = []; left = no_mark; right = no_mark; fixed = Some f }

  abbrev pub spent_view : View E F
  spent_view = record { number = 0; made = []; next = 9; stage = Idle; seen = []; left = no_mark; right = no_mark; fixed = None }

  abbrev pub splitter : View E F → View E F
  splitter v = record v { next = v.next + 1 }

  abbrev pub newcomer : View E F → View E F
  newcomer v = record { number = v.next; made = v.next ∷ []; next = 9; stage = Idle; seen = v.seen; left = no_mark; right = no_mark; fixed = v.fixed }

  abbrev pub mark_of : View E F → Mark E
  mark_of v = record { list = v.seen; numbers = v.made }

  abbrev pub joined : View E F → View E F → View E F
  joined v w = record v { made = v.made ++ w.made; next = min v.next w.next; seen = longer v.seen w.seen; left = mark_of v; right = mark_of w }

module _ {X E F : Type 0} where
  -- the seat has seen more entries, and the value is out with it
  abbrev pub Fetched : Sat X E F → ℕ → List E → Sat X E F → Type 0
  Fetched m t more n = n ≡ (staged m.0 (Out t) (m.0.seen ++ more), (0, None) ∷ [])
