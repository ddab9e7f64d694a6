-- A text that is written a page at a time, where some of it may wait.
--     Written    the text came behind what waited: the front of both went out, and the rest waits
--     Cut        a front of what waited and of the text went out, and the rest was lost
use Rattle.std.specs.Prelude.{◌≡◌, ℕ, List, ◌++◌, Option}
use Rattle.tdl_io.specs.Told.{GainedExactly, GainedPrefix}

-- what the device tells before and after, what waited before, and what waits now
pub record Written (old new : Option (List ℕ)) (waited waits text : List ℕ) : Type 0 where
  pub put : List ℕ
  pub parts : waited ++ text ≡ put ++ waits
  pub gained : GainedExactly old new put

pub record Cut (old new : Option (List ℕ)) (waited text : List ℕ) : Type 0 where
  pub gained : GainedPrefix old new (waited ++ text)
