-- What a reader of lines has taken from an input, and the lines that it gave, from the start of a run on.
use Rattle.std.specs.Prelude.{◌≡◌, ℕ, ◌≤◌, List, [], IfSome, IsTrue}
use Rattle.tdl_io.specs.Told.{GaveExactly}
use Rattle.tdl_lines.specs.Reading.{Reading, HasRead}
use Rattle.tdl_answer.specs.Account.{Account}

pub record HasTaken (reading : Reading) (input : Account ℕ) : Type 0 where
  pub taken : List ℕ
  pub given : List (List ℕ)
  pub read : HasRead reading taken given
  pub gave : GaveExactly input.told_before input.told_after taken
  pub none_left : IsTrue reading.ended → IfSome input.told_after (λ left. left ≡ [])
  pub kept : input.faults_before ≤ input.faults_after
