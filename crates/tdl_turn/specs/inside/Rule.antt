-- The rule of the table: there is one course of the lock, which the words, the value at home and each view fit.
-- The words are the tickets drawn, the ticket served and the count of entries, by 2^64.
use Rattle.std.specs.Prelude.{◌≡◌, ℕ, ◌+◌, ◌%◌, ◌^◌, ◌<◌, ◌≤◌, ◌⊎◌, List, [], ◌∷◌, length, Bool, true, false, Option, Some, IfSome}
use mathlib.Core.Option.{none, some}
use lib.ListN.{get_elem?}
use Rattle.atomic_table.specs.Table.{State}
use Rattle.tdl_turn.specs.declared.view.View.{View}
use Rattle.tdl_turn.specs.declared.view.Mark.{Mark}
use Rattle.tdl_turn.specs.declared.view.Stage.{Stage}
use Rattle.tdl_turn.specs.declared.view.Stage.TheVariants.{Idle, Waiting, Holding, Learned, Out}
use Rattle.tdl_turn.specs.Numbers.{Among, AllBelow, Reads}
use Rattle.tdl_turn.specs.inside.Views.{tickets, width}

abbrev pub total : {A : Type 0} → (A → ℕ) → List A → ℕ
total f [] = 0
total f (x ∷ xs) = f x + total f xs

pub record Course (E : Type 0) : Type 0 where
  pub drawn : ℕ
  pub served : ℕ
  -- the value is out with the seat whose ticket is served
  pub out : Bool
  -- the seat that drew a ticket
  pub holder : ℕ → ℕ
  pub log : List E
  -- a seat that has seen all of it
  pub latest : ℕ
  -- seats were made for the numbers below it
  pub next : ℕ
  -- the seat that stands for a number
  pub who : ℕ → ℕ
  -- the seat that gives the numbers from `next`
  pub keeper : ℕ

module _ {E : Type 0} where
  abbrev pub words_of : Course E → List ℕ
  words_of c = (c.drawn % 2 ^ 64) ∷ (c.served % 2 ^ 64) ∷ length c.log ∷ []

  -- the seat has the ticket that is served, and the value is out with it or not
  abbrev pub Serves : Course E → ℕ → ℕ → Bool → Type 0
  Serves c seat t is-out = (t ≡ c.served) × (t < c.drawn) × (c.holder t ≡ seat) × (c.out ≡ is-out)

  abbrev pub At : Course E → ℕ → List E → Stage → Type 0
  At c seat seen Idle = Unit {0}
  At c seat seen (Waiting t) = (c.served ≤ t) × (t < c.drawn) × (c.holder t ≡ seat) × (t ≡ c.served → c.out ≡ false)
  At c seat seen (Holding t) = Serves c seat t false
  At c seat seen (Learned t) = Serves c seat t false × (seen ≡ c.log)
  At c seat seen (Out t) = Serves c seat t true × (seen ≡ c.log)

module _ {E F : Type 0} (by : E → ℕ) where
  abbrev pub Past : View E F → Mark E → Type 0
  Past v m = Reads by v.seen m.list m.numbers × ((n : ℕ) → Among n m.numbers → Among n v.made)

  pub record Fits (key : F) (c : Course E) (seat : ℕ) (v : View E F) : Type 0 where
    pub at : At c seat v.seen v.stage
    -- who stands for no number has no ticket
    pub room : tickets v ≤ width v
    pub made : (n : ℕ) → Among n v.made → (n < c.next) × (c.who n ≡ seat)
    pub unmade : (v.next ≡ 9) ⊎ ((v.next ≡ c.next) × (seat ≡ c.keeper))
    pub reads : Reads by c.log v.seen v.made
    pub left : Past v v.left
    pub right : Past v v.right
    pub same : IfSome v.fixed (λ f. f ≡ key)

module _ {X E F : Type 0} (history : X → List E) (fixed : X → F) where
  -- the value's slot while it is out, and while it is at home
  abbrev pub Home : F → List E → Bool → List (mathlib.Core.Option.Option (Option X)) → Type 0
  Home key log true homes = homes ≡ none ∷ []
  Home key log false homes = (x : X) × (homes ≡ some (Some x) ∷ []) × (history x ≡ log) × (fixed x ≡ key)

  pub record Ruled (by : E → ℕ) (key : F) (s : State (Option X) (View E F)) : Type 0 where
    pub course : Course E
    pub words : s.words ≡ words_of course
    pub home : Home key course.log course.out s.homes
    pub busy : course.out ≡ true → course.served < course.drawn
    pub short : length course.log < 2 ^ 64
    pub few : course.next ≤ 9
    -- at most nine tickets are out, so no two are alike by 2^64
    pub tickets_out : total tickets s.views + course.served ≡ course.drawn
    pub numbers : total width s.views ≡ course.next
    pub numbered : AllBelow by course.next course.log
    pub whole : (v : View E F) × (get_elem? s.views course.latest ≡ some v) × (v.seen ≡ course.log) × (0 < width v)
    pub each : (seat : ℕ) (v : View E F) → get_elem? s.views seat ≡ some v → Fits by key course seat v
