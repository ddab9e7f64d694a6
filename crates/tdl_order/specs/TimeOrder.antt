-- Items in order of their times, where `time` gives an item's time.
--     placed       a list with an item more, before the first one that is not earlier
--     by_time      the items in order of their times; items of one time keep their order
--     Rises        no item is earlier than one before it
--     is_before    the item's time is before t
--     is_from      the item's time is t or later
use Rattle.std.specs.Prelude.{Bool, not, List, [], ◌∷◌, if◌then◌else◌}
use Rattle.std.specs.List.{AllByRecursion}
use Rattle.tdl_fraction.specs.Rational.{Rational, lt_ℚ, ◌≤ℚ◌}

abbrev pub placed : {A : Type 0} → (A → Rational) → A → List A → List A
placed time x [] = x ∷ []
placed time x (y ∷ ys) = if lt_ℚ (time y) (time x) then y ∷ placed time x ys else x ∷ y ∷ ys

abbrev pub by_time : {A : Type 0} → (A → Rational) → List A → List A
by_time time [] = []
by_time time (x ∷ xs) = placed time x (by_time time xs)

abbrev pub Rises : {A : Type 0} → (A → Rational) → List A → Type 0
Rises time [] = Unit {0}
Rises time (x ∷ xs) = AllByRecursion (λ y. time x ≤ℚ time y) xs × Rises time xs

abbrev pub is_before : {A : Type 0} → (A → Rational) → Rational → A → Bool
is_before time t x = lt_ℚ (time x) t

abbrev pub is_from : {A : Type 0} → (A → Rational) → Rational → A → Bool
is_from time t x = not (lt_ℚ (time x) t)
