-- What was taken from an input.
--     Taken     its bytes, and whether it was seen to end with them
--     Begun     a line that was begun, and its reply
use Rattle.std.specs.Prelude.{◌≡◌, ℕ, ◌+◌, ◌≤◌, ◌⊎◌, Bool, IfSome, IsTrue, List, [], ◌∷◌, length, Option, Some, None}
use Rattle.tdl_io.specs.Told.{GaveExactly}
use Rattle.tdl_io.specs.Faults.{CountRose}
use Rattle.tdl_lines.specs.Lines.{max_input}
use Rattle.tdl_answer.specs.Account.{Account}

-- no byte more than count was taken, and none is left
pub record IsAtEnd (taken : List ℕ) (left : Option (List ℕ)) : Type 0 where
  pub counted : length taken ≤ max_input
  pub none_left : IfSome left (λ bytes. bytes ≡ [])

pub record Taken (input : Account ℕ) : Type 0 where
  -- these bytes were taken, and the input was seen to end with them or not
  pub bytes : List ℕ
  pub ended : Bool
  -- they are the next that the input had; it has these left, which it tells unless it failed
  pub left : Option (List ℕ)
  pub gave : GaveExactly input.told_before left bytes
  pub tells : (input.told_after ≡ left) ⊎ ((input.told_after ≡ None) × CountRose input.faults_before input.faults_after)
  -- at most one byte more than count
  pub limit : length bytes ≤ max_input + 1
  pub at_end : IsTrue ended → IsAtEnd bytes left

-- a line that was begun, and its reply
pub record Begun : Type 0 where
  pub line : List ℕ
  pub reply : List ℕ

abbrev pub begun_lines : Option Begun → List (List ℕ)
begun_lines None = []
begun_lines (Some begun) = begun.line ∷ []
