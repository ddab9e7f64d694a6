-- The first items of a list.
use Rattle.std.specs.Prelude.{◌≡◌, List, ◌++◌}

-- the list begins with these items
pub record IsFront {A : Type 0} (front all : List A) : Type 0 where
  pub rest : List A
  pub parts : all ≡ front ++ rest
