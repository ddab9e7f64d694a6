-- What each step tells: of the step, the seat before, the number found and the seat after.
use Rattle.std.specs.Prelude.{◌≡◌, ◌≢◌, ℕ, ◌%◌, ◌^◌, ◌≤◌, List, [], ◌∷◌, ◌++◌, length, Option, Some, IfSome}
use Rattle.atomic_table.specs.Table.{Step}
use Rattle.tdl_turn.specs.declared.view.Stage.TheVariants.{Idle, Waiting, Holding, Learned, Out}
use Rattle.tdl_turn.specs.Numbers.{NoneOf, NoneUnmade, Reads}
use Rattle.tdl_turn.specs.Tokens.{Sat}
use Rattle.tdl_turn.specs.inside.Views.{ticket_of, staged, at_stage, with_entries}

module _ {X E F : Type 0} where
  abbrev pub drew : Step (Option X) → Sat X E F → ℕ → Sat X E F → Type 0
  drew st m r n = (t : ℕ) × (r ≡ t % 2 ^ 64) × (n ≡ (at_stage m.0 (Waiting t), m.1))

  abbrev pub looked : Step (Option X) → Sat X E F → ℕ → Sat X E F → Type 0
  looked st m r n =
      (r ≡ ticket_of m.0.stage % 2 ^ 64 → n ≡ (at_stage m.0 (Holding (ticket_of m.0.stage)), m.1)) × (r ≢ ticket_of m.0.stage % 2 ^ 64 → n ≡ m)

  abbrev pub learned : (E → ℕ) → Step (Option X) → Sat X E F → ℕ → Sat X E F → Type 0
  learned by st m r n = (more : List E) × NoneOf by m.0.made more × (n ≡ (staged m.0 (Learned (ticket_of m.0.stage)) (m.0.seen ++ more), m.1))

  -- the slot comes to the seat, with a value that has the history seen and the seat's fixed part
  abbrev pub took : (X → List E) → (X → F) → Step (Option X) → Sat X E F → ℕ → Sat X E F → Type 0
  took history fixed st m r n =
      (x : X) × (history x ≡ m.0.seen) × IfSome m.0.fixed (λ f. fixed x ≡ f) × (n ≡ (at_stage m.0 (Out (ticket_of m.0.stage)), (0, Some x) ∷ m.1))

  abbrev pub counted : Step (Option X) → Sat X E F → ℕ → Sat X E F → Type 0
  counted st m r n = (n ≡ m) × (r ≡ length m.0.seen)

  -- the seat has seen the history of the value in its slot
  abbrev pub entered : (X → List E) → Step (Option X) → Sat X E F → ℕ → Sat X E F → Type 0
  entered history st m r n = (x : X) → m.1 ≡ (0, Some x) ∷ [] → n ≡ (with_entries m.0 (history x), m.1)

  abbrev pub passed : Step (Option X) → Sat X E F → ℕ → Sat X E F → Type 0
  passed st m r n = n ≡ (at_stage m.0 Idle, [])

  abbrev pub read : (E → ℕ) → Step (Option X) → Sat X E F → ℕ → Sat X E F → Type 0
  read by st m r n = (n ≡ m) × (length m.0.seen ≤ r) × Reads by m.0.seen m.0.left.list m.0.left.numbers × Reads by m.0.seen m.0.right.list m.0.right.numbers
      × NoneUnmade by m.0.next m.0.seen
