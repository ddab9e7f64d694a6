-- A pass as its holder sees it, and what a call tells of it.
use Rattle.std.specs.Prelude.{◌≡◌, ℕ, ◌+◌, ◌-◌, ◌==◌, List, [], ◌∷◌, ◌++◌, length, filter, Option, Some}
use Rattle.atomic_table.specs.Seated.{TableId}
use Rattle.tdl_turn.specs.Numbers.{NoneOf}
use Rattle.tdl_turn.specs.Sitters.{Sitter}

-- the entries of a number
abbrev pub mine_of : {E : Type 0} → (E → ℕ) → ℕ → List E → List E
mine_of by n entries = filter (λ e. by e == n) entries

-- the history has one entry more, of this number, as it may be added there
abbrev pub Gains : {E : Type 0} → (E → ℕ) → (List E → E → Type 0) → ℕ → List E → List E → Type 0
Gains {E} by adds who old new = (e : E) × (new ≡ old ++ e ∷ []) × (by e ≡ who) × adds old e

pub record PassView (E F : Type 0) : Type 0 where
  pub table : TableId
  -- what no call changes in the machine
  pub fixed : Option F
  pub number : ℕ
  -- the numbers that it stands for and for which a pass was made
  pub made : List ℕ
  -- it gives the numbers from here to 8, or none where this is 9
  pub next : ℕ
  pub seen : List E

module _ {E F : Type 0} where
  abbrev pub pass_of : Sitter E F → PassView E F
  pass_of s = record { table = s.table; fixed = s.fixed; number = s.number; made = s.made; next = s.next; seen = s.seen }

  -- the pass is one of this session
  abbrev pub IsPassOf : TableId × F → PassView E F → Type 0
  IsPassOf shared p = (p.table ≡ shared.0) × (p.fixed ≡ Some shared.1)

  -- the pass of a new session
  abbrev pub IsFirst : PassView E F → Type 0
  IsFirst p = (p.number ≡ 0) × (p.made ≡ 0 ∷ []) × (p.next ≡ 1) × (p.seen ≡ [])

  abbrev pub SamePass : PassView E F → PassView E F → Type 0
  SamePass p q = (q.table ≡ p.table) × (q.fixed ≡ p.fixed) × (q.number ≡ p.number) × (q.made ≡ p.made) × (q.next ≡ p.next)

  -- no other pass is left
  abbrev pub StandsForAll : PassView E F → Type 0
  StandsForAll p = length p.made + (9 - p.next) ≡ 9

  module _ (by : E → ℕ) where
    -- the entries of the pass's own number
    abbrev pub mine : PassView E F → List E
    mine p = mine_of by p.number p.seen

    -- entries of others came, and then the call's own, after which its holder has that one more
    abbrev pub Called : (List E → E → Type 0) → PassView E F → PassView E F → Type 0
    Called adds p q =
        (between : List E) × (e : E) × (q.seen ≡ (p.seen ++ between) ++ e ∷ []) × (by e ≡ p.number) × NoneOf by p.made between × adds (p.seen ++ between) e
        × (mine q ≡ mine p ++ e ∷ [])

    -- entries of others came, and then the call was refused
    abbrev pub Refused : (List E → Type 0) → PassView E F → PassView E F → Type 0
    Refused refuses p q = (between : List E) × (q.seen ≡ p.seen ++ between) × NoneOf by p.made between × refuses q.seen × (mine q ≡ mine p)
