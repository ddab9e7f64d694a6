-- What is made while rows are pushed: a value, and the rows in their order, each by how many links it has.
--     kept          a value for which no row is pushed
--     row           one row, with so many links
--     x ▸ f         f of the value of x, after the rows of x
--     each          f of the items of a list, one after another
use Rattle.std.specs.Prelude.{ℕ, List, [], ◌∷◌, ◌++◌}
use Rattle.std.specs.List.{fold}

pub record Built (A : Type 0) : Type 0 where
  pub value : A
  pub rows : List ℕ

abbrev pub kept : {A : Type 0} → A → Built A
kept value = record { value = value; rows = [] }

abbrev pub one_row : {A : Type 0} → ℕ → A → Built A
one_row links value = record { value = value; rows = links ∷ [] }

infixr 3 ◌▸◌
abbrev pub ◌▸◌ : {A B : Type 0} → Built A → (A → Built B) → Built B
x ▸ f = record { value = (f x.value).value; rows = x.rows ++ (f x.value).rows }

abbrev pub and_next : {A B : Type 0} → (A → Built B) → Built (List B) → A → Built (List B)
and_next f built x = built ▸ λ ys. f x ▸ λ y. kept (ys ++ y ∷ [])

abbrev pub each : {A B : Type 0} → (A → Built B) → List A → Built (List B)
each f xs = fold (and_next f) (kept []) xs
