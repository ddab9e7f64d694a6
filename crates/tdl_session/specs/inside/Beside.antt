-- Work with the items of two lists, pair by pair.
use Rattle.std.specs.Prelude.{List, [], ◌∷◌}

module _ {A B : Type 0} where
  -- the lists are as long as one another, and it may be done with each pair
  abbrev pub AllMay : (A → B → Type 0) → List A → List B → Type 0
  AllMay May [] [] = Unit {0}
  AllMay May (x ∷ xs) (y ∷ ys) = May x y × AllMay May xs ys
  AllMay May _ _ = ⊥

  -- the lists before and after are as long as one another, and it was done with each pair
  abbrev pub EachDid : (A → A → B → B → Type 0) → List A → List A → List B → List B → Type 0
  EachDid Did [] [] [] [] = Unit {0}
  EachDid Did (x ∷ xs) (y ∷ ys) (p ∷ ps) (q ∷ qs) = Did x y p q × EachDid Did xs ys ps qs
  EachDid Did _ _ _ _ = ⊥
