-- What a call that runs out of memory leaves in a text.
use Rattle.std.specs.Prelude.{◌≡◌, ℕ, List, ◌++◌}

-- new is old with the front part of whole added
pub record AddsPrefix (whole old new : List ℕ) : Type 0 where
  pub added : List ℕ
  pub rest : List ℕ
  pub parts : whole ≡ added ++ rest
  pub after : new ≡ old ++ added
