-- Lists of entries, each by a caller's number.
use Rattle.std.specs.Prelude.{◌≡◌, ℕ, ◌<◌, ◌⊎◌, List, [], ◌∷◌, ◌++◌, length, if◌then◌else◌, nat_lt}

-- the number stands in the list
abbrev pub Among : ℕ → List ℕ → Type 0
Among n [] = ⊥
Among n (m ∷ ms) = (n ≡ m) ⊎ Among n ms

module _ {E : Type 0} (by : E → ℕ) where
  -- no entry has one of the numbers
  abbrev pub NoneOf : List ℕ → List E → Type 0
  NoneOf ns [] = Unit {0}
  NoneOf ns (e ∷ es) = ¬ (Among (by e) ns) × NoneOf ns es

  abbrev pub AllBelow : ℕ → List E → Type 0
  AllBelow n [] = Unit {0}
  AllBelow n (e ∷ es) = (by e < n) × AllBelow n es

  -- whoever gives the numbers from this one to 8 knows of no entry of them; 9 is none
  abbrev pub NoneUnmade : ℕ → List E → Type 0
  NoneUnmade next es = (next ≡ 9) ⊎ AllBelow next es

  -- the history begins with what was seen, and after it has no entry of the numbers
  abbrev pub Reads : List E → List E → List ℕ → Type 0
  Reads history seen ns = (rest : List E) × (history ≡ seen ++ rest) × NoneOf ns rest

-- the first, unless the second is longer
abbrev pub longer : {E : Type 0} → List E → List E → List E
longer xs ys = if nat_lt (length xs) (length ys) then ys else xs
