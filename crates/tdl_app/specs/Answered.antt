-- Which lines of a script were answered, and how.
--     AnsweredLines    the first ones were performed, and perhaps one more was begun
--     AllPerformed     all were performed
--     HasFinished      the last of those that were performed is the finish
--     IsOver           the script was performed to its end
use Rattle.std.specs.Prelude.{◌≡◌, ℕ, ◌+◌, ◌⊎◌, true, false, IsTrue, List, [], ◌++◌, length, Option, Some, None}
use Rattle.tdl_lines.specs.Lines.{max_input}
use Rattle.tdl_tempo.specs.Tempo.{Pace}
use Rattle.tdl_score.specs.declared.histories.Entry.{Entry}
use Rattle.tdl_score.specs.History.{is_finished}
use Rattle.tdl_answer.specs.Account.{Account}
use Rattle.tdl_answer.specs.Taken.{Begun, Taken, begun_lines}
use Rattle.tdl_answer.specs.Goes.{Goes}
use Rattle.tdl_app.specs.Plays.{PlaysLine}

abbrev pub IsBegun : Pace → List Entry → Option Begun → List Entry → Type 0
IsBegun tempo reached None history = history ≡ reached
IsBegun tempo reached (Some begun) history = PlaysLine tempo reached begun.line history begun.reply

-- the first lines were performed, from the empty history on; perhaps one more was begun; others were not
-- looked at
pub record AnsweredLines (tempo : Pace) (lines : List (List ℕ)) (history : List Entry) : Type 0 where
  pub performed : List (List ℕ)
  pub begun : Option Begun
  pub others : List (List ℕ)
  pub parts : lines ≡ performed ++ (begun_lines begun ++ others)
  pub replies : List (List ℕ)
  pub reached : List Entry
  pub plays : Goes (PlaysLine tempo) [] performed reached replies
  pub next : IsBegun tempo reached begun history

-- ---- how far the lines were performed
-- no line was only begun or not looked at, and none is the finish
pub record AllPerformed {tempo : Pace} {lines : List (List ℕ)} {history : List Entry} (answers : AnsweredLines tempo lines history) : Type 0 where
  pub none_begun : answers.begun ≡ None
  pub none_left : answers.others ≡ []
  pub going : is_finished history ≡ false

-- the last line that was performed is the finish
pub record HasFinished {tempo : Pace} {lines : List (List ℕ)} {history : List Entry} (answers : AnsweredLines tempo lines history) : Type 0 where
  pub none_begun : answers.begun ≡ None
  pub finished : is_finished history ≡ true

-- the finish was performed; or all lines were, and the input ended, or it gave a byte more than count
abbrev pub IsOver : {input : Account ℕ} {tempo : Pace} {lines : List (List ℕ)} {history : List Entry} → Taken input → AnsweredLines tempo lines history → Type 0
IsOver script answers =
    HasFinished answers ⊎ (AllPerformed answers × (IsTrue script.ended ⊎ (length script.bytes ≡ max_input + 1)))
