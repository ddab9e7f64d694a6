-- What was done at a performer's port.
--     AnswersPort    which lines were answered, along a history
--     PortEndsAs     how the port ended, and why
--     ServesPort     all of it, a sentence a field
use Rattle.std.specs.Prelude.{◌≡◌, ℕ, ◌+◌, ◌≤◌, false, IsTrue, List, [], ◌∷◌, ◌++◌, length, Option, Some, None}
use Rattle.tdl_io.specs.Faults.{CountRose}
use Rattle.tdl_io.specs.Told.{GainedExactly}
use Rattle.tdl_lines.specs.Lines.{lines_of, max_input}
use Rattle.tdl_tempo.specs.Tempo.{Pace}
use Rattle.tdl_score.specs.declared.histories.Entry.{Entry}
use Rattle.tdl_log.specs.declared.ends.PortEnd.{PortEnd}
use Rattle.tdl_log.specs.declared.ends.PortEnd.TheVariants as port
use Rattle.tdl_answer.specs.Account.{Account}
use Rattle.tdl_answer.specs.EndLine.{one_after_another}
use Rattle.tdl_answer.specs.Taken.{Begun, Taken, begun_lines}
use Rattle.tdl_perform.specs.Serves.{Serves}

abbrev pub begun_replies : Option Begun → List (List ℕ)
begun_replies None = []
begun_replies (Some begun) = begun.reply ∷ []

-- the first lines were answered and their replies put; perhaps one more was answered whose reply was not put whole; others
-- were not looked at
pub record AnswersPort (tempo : Pace) (number : ℕ) (lines : List (List ℕ)) (history : List Entry) : Type 0 where
  pub performed : List (List ℕ)
  pub begun : Option Begun
  pub others : List (List ℕ)
  pub parts : lines ≡ performed ++ (begun_lines begun ++ others)
  pub replies : List (List ℕ)
  pub serves : Serves tempo number (performed ++ begun_lines begun) (replies ++ begun_replies begun) history

-- each line was answered, and its reply was put
abbrev pub AllAnswered : Option Begun → List (List ℕ) → Type 0
AllAnswered begun others = (begun ≡ None) × (others ≡ [])

-- this was put of the reply of the line that was begun
abbrev pub IsFrontOfBegun : Option Begun → List ℕ → Type 0
IsFrontOfBegun None front = front ≡ []
IsFrontOfBegun (Some begun) front = (missing : List ℕ) × (begun.reply ≡ front ++ missing)

pub data PortEndsAs {source : Account ℕ} (script : Taken source) (begun : Option Begun) (others : List (List ℕ)) (sink : Account ℕ)
    (end : PortEnd) : Type 0 where
  -- the source was read to its end, and each line has its reply
  eof : end ≡ port.Eof → IsTrue script.ended → AllAnswered begun others → PortEndsAs script begun others sink end
  -- it gave a byte more than count, and each line that ended before has its reply
  spent : end ≡ port.Spent → length script.bytes ≡ max_input + 1 → AllAnswered begun others → PortEndsAs script begun others sink end
  -- the source failed before it was seen to end, and each line that ended before has its reply
  lost : end ≡ port.Fault → CountRose source.faults_before source.faults_after → length script.bytes ≤ max_input → script.ended ≡ false
      → AllAnswered begun others → PortEndsAs script begun others sink end
  -- the sink failed at the reply of the line that was begun
  broken : end ≡ port.Fault → CountRose sink.faults_before sink.faults_after → (begun ≡ None → ⊥) → PortEndsAs script begun others sink end
  -- out of memory for keeping a line, or for the reply of the line that was begun
  memory : end ≡ port.Memory → (IsTrue script.ended → AllAnswered begun others → ⊥) → PortEndsAs script begun others sink end

pub record ServesPort (tempo : Pace) (number : ℕ) (history : List Entry) (source sink : Account ℕ) (end : PortEnd) : Type 0 where
  -- what was taken from the source
  pub script : Taken source
  -- each line has its one answer, in order, as the performer of this number
  pub answers : AnswersPort tempo number (lines_of script.ended script.bytes) history
  -- the sink gained the replies, each whole, and perhaps a front of one more
  pub front : List ℕ
  pub fits : IsFrontOfBegun answers.begun front
  pub gained : GainedExactly sink.told_before sink.told_after (one_after_another answers.replies ++ front)
  -- the port ended by its cause
  pub ended : PortEndsAs script answers.begun answers.others sink end
  -- no count of faults fell
  pub source_count : source.faults_before ≤ source.faults_after
  pub sink_count : sink.faults_before ≤ sink.faults_after
