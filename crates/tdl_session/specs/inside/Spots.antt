-- The passes of callers side by side, made one after another, and how they meet.
use Rattle.std.specs.Prelude.{◌≡◌, ℕ, ◌+◌, List, [], ◌∷◌, ◌++◌, Option, Some, option_to_list}
use Rattle.atomic_table.specs.Seated.{TableId}
use Rattle.tdl_turn.specs.Numbers.{Among, Reads}
use Rattle.tdl_session.specs.Passes.{PassView, IsPassOf, SamePass}

pub record SpotView (E F T : Type 0) : Type 0 where
  pub pass : PassView E F
  -- how its calls ended, or None before that
  pub end : Option T

module _ {E F : Type 0} where
  -- a pass that stands for its own number alone
  abbrev pub IsSingle : TableId × F → PassView E F → Type 0
  IsSingle shared p = IsPassOf shared p × (p.made ≡ p.number ∷ []) × (p.next ≡ 9)

  -- the pass that has given so many numbers more
  abbrev pub after_splits : PassView E F → ℕ → PassView E F
  after_splits p count = record { table = p.table; fixed = p.fixed; number = p.number; made = p.made; next = p.next + count; seen = p.seen }

  module _ {T : Type 0} where
    -- new passes of the numbers from this one on, which have seen so much
    abbrev pub AreNew : TableId × F → ℕ → List E → List (SpotView E F T) → Type 0
    AreNew shared number seen [] = Unit {0}
    AreNew shared number seen (s ∷ spots) = (IsSingle shared s.pass × (s.pass.number ≡ number) × (s.pass.seen ≡ seen)) × AreNew shared (number + 1) seen spots

    abbrev pub AreSingle : TableId × F → List (SpotView E F T) → Type 0
    AreSingle shared [] = Unit {0}
    AreSingle shared (s ∷ spots) = IsSingle shared s.pass × AreSingle shared spots

    -- each number that a pass stood for is one of these, and its pass had seen a beginning of the history, which has
    -- no entry of the number after that
    abbrev pub HaveMet : (E → ℕ) → List E → List ℕ → List (SpotView E F T) → Type 0
    HaveMet by history made [] = Unit {0}
    HaveMet by history made (s ∷ spots) =
        (Reads by history s.pass.seen s.pass.made × ((n : ℕ) → Among n s.pass.made → Among n made)) × HaveMet by history made spots

    -- how the calls ended, at those spots where they did
    abbrev pub ends_of : List (SpotView E F T) → List T
    ends_of [] = []
    ends_of (s ∷ spots) = option_to_list s.end ++ ends_of spots

    -- the caller made its calls through the spot's pass
    abbrev pub CalledAt : {D : Type 0} → (F → ℕ → List E → D → D → T → Type 0) → F → D → D → SpotView E F T → SpotView E F T → Type 0
    CalledAt did fixed old new s t = SamePass s.pass t.pass × ((end : T) × (t.end ≡ Some end) × did fixed s.pass.number t.pass.seen old new end)
