-- What a run of `play` puts into its output.
--     is_fault      statuses of a run that broke
--     PrintsNext    behind the replies of the lines that were performed
--     Prints        all of it
use Rattle.std.specs.Prelude.{◌≡◌, ℕ, ◌⊎◌, ◌==◌, ◌||◌, Bool, IsTrue, List, [], ◌++◌, Some, None}
use Rattle.tdl_io.specs.Told.{GainedExactly}
use Rattle.tdl_tempo.specs.Tempo.{Pace}
use Rattle.tdl_score.specs.declared.histories.Entry.{Entry}
use Rattle.tdl_answer.specs.Account.{Account, WireAccounts}
use Rattle.tdl_answer.specs.Taken.{Taken}
use Rattle.tdl_answer.specs.Sent.{SendsBoth, SendsBothFrom}
use Rattle.tdl_answer.specs.EndLine.{EndPart, PrintsEnd, one_after_another}
use Rattle.tdl_app.specs.Answered.{AnsweredLines, IsOver}

-- out of memory, or a put or a send failed
abbrev pub is_fault : ℕ → Bool
is_fault status = status == 3 || status == 4

-- this is a front of the reply of the line that was begun: none of it, while at least all packets of the
-- lines before were sent, or any after all packets of this line
pub record PrintsBegun {tempo : Pace} {lines : List (List ℕ)} {history : List Entry} (status : ℕ) (answers : AnsweredLines tempo lines history) (front : List ℕ)
    (wires : WireAccounts) : Type 0 where
  pub line : List ℕ
  pub missing : List ℕ
  pub is : answers.begun ≡ Some (record { line = line; reply = front ++ missing })
  pub ordered : SendsBoth tempo history wires ⊎ ((front ≡ []) × SendsBothFrom tempo answers.reached history wires)
  pub memory : status ≡ 3 → front ≡ []

-- what the output gained behind the replies of the lines that were performed
pub data PrintsNext {input : Account ℕ} {tempo : Pace} {lines : List (List ℕ)} {history : List Entry} (status : ℕ) (script : Taken input)
    (answers : AnsweredLines tempo lines history) (text : List ℕ) (wires : WireAccounts) : Type 0 where
  -- the end line
  whole : (status ≡ 0) ⊎ (status ≡ 6) → PrintsEnd EndPart.whole tempo history text → PrintsNext status script answers text wires
  nothing : (status ≡ 3) ⊎ (status ≡ 5) → answers.begun ≡ None → SendsBoth tempo history wires → PrintsEnd EndPart.nothing tempo history text
      → PrintsNext status script answers text wires
  part_of_reply : IsTrue (is_fault status) → PrintsBegun status answers text wires → PrintsNext status script answers text wires
  -- a front of the end line
  part_of_end : status ≡ 4 → IsOver script answers → SendsBoth tempo history wires → PrintsEnd EndPart.part tempo history text
      → PrintsNext status script answers text wires

pub record Prints {input : Account ℕ} {tempo : Pace} {lines : List (List ℕ)} {history : List Entry} (status : ℕ) (script : Taken input)
    (answers : AnsweredLines tempo lines history) (out : Account ℕ) (wires : WireAccounts) : Type 0 where
  pub text : List ℕ
  pub next : PrintsNext status script answers text wires
  pub gained : GainedExactly out.told_before out.told_after (one_after_another answers.replies ++ text)
