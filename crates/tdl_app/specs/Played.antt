-- What a run of `play` does, a sentence a field.
--     Performed     the script was performed
--     Played        the run as a whole, with its log
use Rattle.std.specs.Prelude.{ℕ, ◌≤◌, List, [], ◌∷◌}
use Rattle.tdl_lines.specs.Lines.{lines_of}
use Rattle.tdl_tempo.specs.Tempo.{Pace}
use Rattle.tdl_score.specs.declared.histories.Entry.{Entry}
use Rattle.tdl_core.specs.Said.{IsLegal}
use Rattle.tdl_log.specs.declared.ends.Ending.{Ending}
use Rattle.tdl_log.specs.LogText.{log_text}
use Rattle.tdl_answer.specs.Account.{Account, WireAccounts}
use Rattle.tdl_answer.specs.Taken.{Taken}
use Rattle.tdl_answer.specs.Sent.{Sends}
use Rattle.tdl_answer.specs.Ends.{PortsEnd, Logs}
use Rattle.tdl_app.specs.Answered.{AnsweredLines}
use Rattle.tdl_app.specs.Printed.{Prints, is_fault}
use Rattle.tdl_app.specs.Causes.{EndsAs, HasPlayingStatus}

pub record KeepsCounts (input out : Account ℕ) (wires : WireAccounts) : Type 0 where
  pub input_count : input.faults_before ≤ input.faults_after
  pub out_count : out.faults_before ≤ out.faults_after
  pub osc_count : wires.osc.faults_before ≤ wires.osc.faults_after
  pub midi_count : wires.midi.faults_before ≤ wires.midi.faults_after

-- the script was performed, and playing called for this status
pub record Performed (tempo : Pace) (status : ℕ) (history : List Entry) (ends : List Ending) (input out : Account ℕ) (wires : WireAccounts) : Type 0 where
  -- the script is what was taken from the input
  pub script : Taken input
  -- the history is legal
  pub legal : IsLegal history
  -- each line has its one answer, in order
  pub answers : AnsweredLines tempo (lines_of script.ended script.bytes) history
  -- the packets sent to each wire are the history's, or after a fault a front of them that has at least those before its last tick or finish
  pub packets : Sends (is_fault status) tempo history wires
  -- the output gained the replies, each after its packets, and then the end line; or after a fault a front of that
  pub printed : Prints status script answers out wires
  -- the status has its cause
  pub cause : HasPlayingStatus status script answers out wires
  -- the script's port, which is the only one and has the number 0, ended by its cause
  pub ended : PortsEnd (λ number port end. EndsAs status script answers end) 0 (input ∷ []) ends
  -- no count of faults fell
  pub counts : KeepsCounts input out wires

pub record Played (tempo : Pace) (status : ℕ) (history : List Entry) (ends : List Ending) (input out log : Account ℕ) (wires : WireAccounts) : Type 0 where
  pub playing : ℕ
  pub performed : Performed tempo playing history ends input out wires
  -- the log gained the text of the tempo, the history and the port's end, in every status
  pub logged : Logs (log_text (record { tempo = tempo; history = history; ends = ends })) playing status log
  pub log_count : log.faults_before ≤ log.faults_after
