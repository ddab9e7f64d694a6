-- Callers beside a leader, each with a pass of its own.
use Rattle.std.specs.Prelude.{◌≡◌, ℕ, ◌+◌, ◌≤◌, List, [], ◌∷◌}
use Rattle.atomic_table.specs.Seated.{TableId}
use Rattle.tdl_turn.specs.Numbers.{Among, Reads}
use Rattle.tdl_session.specs.Passes.{PassView, IsPassOf}

module _ {E F : Type 0} where
  -- a pass of a number from 1 to 8, which has seen nothing
  abbrev pub SitsAt : TableId × F → PassView E F → Type 0
  SitsAt shared p = IsPassOf shared p × (1 ≤ p.number) × (p.number ≤ 8) × (p.seen ≡ [])

  -- the pass of number 0, which has seen nothing
  abbrev pub LeadsAt : TableId × F → PassView E F → Type 0
  LeadsAt shared p = IsPassOf shared p × (p.number ≡ 0) × Among 0 p.made × (p.seen ≡ [])

module _ {E F D T : Type 0} (by : E → ℕ) where
  -- what a caller of a number did in what its pass has seen, it did in a history that goes on without that number
  abbrev pub StaysDone : (F → ℕ → List E → D → D → T → Type 0) → Type 0
  StaysDone did = (fixed : F) (number : ℕ) (numbers : List ℕ) (history seen : List E) (old new : D) (end : T) → Among number numbers
      → Reads by history seen numbers → did fixed number seen old new end → did fixed number history old new end

  -- what the leader did in what its pass has seen, it did in a legal history that goes on without number 0
  abbrev pub StaysLed : (F → List E → Type 0) → (F → List E → D → D → T → Type 0) → Type 0
  StaysLed legal did = (fixed : F) (numbers : List ℕ) (history seen : List E) (old new : D) (end : T) → legal fixed history → Among 0 numbers
      → Reads by history seen numbers → did fixed seen old new end → did fixed history old new end

-- each caller, of the numbers from this one on, did so in this history, with its end
abbrev pub EachEnded : {E F D T : Type 0} → (F → ℕ → List E → D → D → T → Type 0) → F → ℕ → List E → List D → List D → List T → Type 0
EachEnded did fixed number history [] [] [] = Unit {0}
EachEnded did fixed number history (old ∷ olds) (new ∷ news) (end ∷ ends) =
    did fixed number history old new end × EachEnded did fixed (number + 1) history olds news ends
EachEnded did fixed number history _ _ _ = ⊥
