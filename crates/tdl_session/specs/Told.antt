-- What the caller of a number was told along a history.
use Rattle.std.specs.Prelude.{◌≡◌, ◌≢◌, ℕ, List, [], ◌∷◌, ◌++◌, map, Result, Ok, Err}
use Rattle.tdl_turn.specs.Numbers.{Among, Reads}
use Rattle.tdl_session.specs.Passes.{PassView, mine_of, Called, Refused}

-- these are the answered calls of number n along a history, in its order, each with the reply that it got
-- after all entries before it
module _ {E C R : Type 0} (by : E → ℕ) (adds : List E → C → E → R → Type 0) (n : ℕ) where
  abbrev pub Told : List E → List E → List (C × R) → Type 0
  Told before [] told = told ≡ []
  Told before (e ∷ entries) told =
      (by e ≡ n → (c : C) × (r : R) × (rest : List (C × R)) × (told ≡ (c, r) ∷ rest) × adds before c e r × Told (before ++ e ∷ []) entries rest)
      × (by e ≢ n → Told (before ++ e ∷ []) entries told)

module _ {E F C R : Type 0} (by : E → ℕ) (adds : F → List E → ℕ → C → E → R → Type 0) (fixed : F) where
  -- the same along a whole history, of a machine with this fixed part
  abbrev pub Tells : ℕ → List E → List (C × R) → Type 0
  Tells n history told = Told by (λ h c e r. adds fixed h n c e r) n [] history told

  -- whatever the pass's holder was told along what it had seen, this came after it, up to what it has seen now
  abbrev pub IsTold : PassView E F → List E → List (C × R) → Type 0
  IsTold p seen answers = (told : List (C × R)) → Tells p.number p.seen told → Tells p.number seen (told ++ answers)

  abbrev pub AnswersAreAdded : Type 0
  AnswersAreAdded = (p q : PassView E F) (c : C) (r : R) → Among p.number p.made → Called by (λ h e. adds fixed h p.number c e r) p q
      → IsTold p q.seen ((c, r) ∷ [])

  abbrev pub RefusalsAddNothing : {X : Type 0} → (F → List E → ℕ → C → X → Type 0) → Type 0
  RefusalsAddNothing {X} refuses = (p q : PassView E F) (c : C) (x : X) (told : List (C × R)) → Among p.number p.made
      → Refused by (λ h. refuses fixed h p.number c x) p q → Tells p.number p.seen told → Tells p.number q.seen told

  abbrev pub MeetingsAddNothing : Type 0
  MeetingsAddNothing = (n : ℕ) (ns : List ℕ) (history seen : List E) (told : List (C × R)) → Among n ns → Reads by history seen ns
      → Tells n seen told → Tells n history told

  -- what each entry that is added has of its call, the entries of a number have of the calls that its caller was told of, in order
  abbrev pub EntriesTellOfCalls : {X : Type 0} → ℕ → (E → X) → (C → X) → Type 0
  EntriesTellOfCalls n f g = ((before : List E) (c : C) (e : E) (r : R) → adds fixed before n c e r → f e ≡ g c)
      → (history : List E) (told : List (C × R)) → Tells n history told → map f (mine_of by n history) ≡ map (λ t. g t.0) told

-- what a call adds to it
abbrev pub answered : {C R X : Type 0} → C → Result R X → List (C × R)
answered c (Ok r) = (c, r) ∷ []
answered c (Err x) = []
