-- Why a run of `play` has its status, and its port its end.
--     HasPlayingStatus     why playing called for this status
--     EndsAs               how the script's port ended
use Rattle.std.specs.Prelude.{◌≡◌, ℕ, ◌+◌, ◌≤◌, false, IsTrue, List, length}
use Rattle.tdl_io.specs.Faults.{CountRose}
use Rattle.tdl_lines.specs.Lines.{max_input}
use Rattle.tdl_tempo.specs.Tempo.{Pace}
use Rattle.tdl_score.specs.declared.histories.Entry.{Entry}
use Rattle.tdl_log.specs.declared.ends.PortEnd.{PortEnd}
use Rattle.tdl_log.specs.declared.ends.PortEnd.TheVariants as port
use Rattle.tdl_answer.specs.Account.{Account, WireAccounts}
use Rattle.tdl_answer.specs.Taken.{Taken}
use Rattle.tdl_app.specs.Answered.{AllPerformed, AnsweredLines, HasFinished}
use Rattle.tdl_answer.specs.Ends.{AnyHasFailed}
use Rattle.tdl_app.specs.Printed.{is_fault}

pub data HasPlayingStatus {input : Account ℕ} {tempo : Pace} {lines : List (List ℕ)} {history : List Entry} (status : ℕ) (script : Taken input)
    (answers : AnsweredLines tempo lines history) (out : Account ℕ) (wires : WireAccounts) : Type 0 where
  -- the input ended, and each line was performed
  done : status ≡ 0 → IsTrue script.ended → AllPerformed answers → HasPlayingStatus status script answers out wires
  -- the finish was performed, and nothing after it was looked at
  finished : status ≡ 0 → HasFinished answers → HasPlayingStatus status script answers out wires
  -- out of memory
  memory : status ≡ 3 → HasPlayingStatus status script answers out wires
  -- a put or a send failed
  fault : status ≡ 4 → AnyHasFailed out wires → HasPlayingStatus status script answers out wires
  -- the input failed before it was seen to end; each line that ended before was performed
  lost : status ≡ 5 → CountRose input.faults_before input.faults_after → script.ended ≡ false → length script.bytes ≤ max_input → AllPerformed answers
      → HasPlayingStatus status script answers out wires
  -- the input gave a byte more than count; each line that ended before was performed
  spent : status ≡ 6 → length script.bytes ≡ max_input + 1 → AllPerformed answers → HasPlayingStatus status script answers out wires

-- how the script's port ended
pub data EndsAs {input : Account ℕ} {tempo : Pace} {lines : List (List ℕ)} {history : List Entry} (status : ℕ) (script : Taken input)
    (answers : AnsweredLines tempo lines history) (end : PortEnd) : Type 0 where
  -- the input ended, and each line was performed
  eof : end ≡ port.Eof → IsTrue script.ended → AllPerformed answers → EndsAs status script answers end
  -- the finish was performed
  finish : end ≡ port.Finish → HasFinished answers → EndsAs status script answers end
  -- the input failed
  fault : end ≡ port.Fault → status ≡ 5 → EndsAs status script answers end
  -- the input gave a byte more than count, and each line that ended before was performed
  spent : end ≡ port.Spent → length script.bytes ≡ max_input + 1 → AllPerformed answers → EndsAs status script answers end
  -- the run stopped before
  stopped : end ≡ port.Stopped → IsTrue (is_fault status) → (IsTrue script.ended → AllPerformed answers → ⊥) → (HasFinished answers → ⊥)
      → EndsAs status script answers end
