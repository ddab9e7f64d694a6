-- What a run of `drill` does, a sentence a field.
--     EndsDrill       how a script without replies ended: the status, its port, and what the output gained
--     PlayedThrough   a script was played without replies
--     Drilled         the run as a whole, with its log
use Rattle.std.specs.Prelude.{◌≡◌, ◌⊎◌, ℕ, ◌≤◌, List, [], ◌∷◌, ◌++◌}
use Rattle.tdl_io.specs.Told.{GainedExactly}
use Rattle.tdl_io.specs.Faults.{CountRose}
use Rattle.tdl_tempo.specs.Tempo.{Pace}
use Rattle.tdl_score.specs.declared.histories.Entry.{Entry}
use Rattle.tdl_core.specs.Said.{IsLegal}
use Rattle.tdl_log.specs.declared.ends.Ending.{Ending}
use Rattle.tdl_log.specs.declared.ends.PortEnd.{PortEnd}
use Rattle.tdl_log.specs.declared.ends.PortEnd.TheVariants as port
use Rattle.tdl_log.specs.LogText.{log_text}
use Rattle.tdl_words.specs.Modes.{usual_pace}
use Rattle.tdl_drill.specs.Drill.{drill_lines}
use Rattle.tdl_answer.specs.Account.{Account, KeepsWires, WireAccounts}
use Rattle.tdl_answer.specs.EndLine.{EndPart, PrintsEnd}
use Rattle.tdl_answer.specs.Sent.{Sends, SendsBoth}
use Rattle.tdl_answer.specs.Ends.{Logs}
use Rattle.tdl_app.specs.Cuts.{IsPlayed}
use Rattle.tdl_app.specs.Printed.{is_fault}

pub data EndsDrill (tempo : Pace) (status : ℕ) (history : List Entry) (rest : List (List ℕ)) (end : PortEnd) (out : Account ℕ) (wires : WireAccounts)
    : Type 0 where
  -- each line was played, and the output gained the end line
  done : status ≡ 0 → end ≡ port.Finish → rest ≡ [] → (line : List ℕ) → PrintsEnd EndPart.whole tempo history line
      → GainedExactly out.told_before out.told_after line → EndsDrill tempo status history rest end out wires
  -- each line was played, and the output failed at the end line
  out_failed : status ≡ 4 → end ≡ port.Finish → rest ≡ [] → SendsBoth tempo history wires → CountRose out.faults_before out.faults_after
      → (front : List ℕ) → PrintsEnd EndPart.part tempo history front → GainedExactly out.told_before out.told_after front
      → EndsDrill tempo status history rest end out wires
  -- each line was played, and there was no memory for the end line
  no_line : status ≡ 3 → end ≡ port.Finish → rest ≡ [] → SendsBoth tempo history wires → GainedExactly out.told_before out.told_after []
      → EndsDrill tempo status history rest end out wires
  -- a send failed
  wire_failed : status ≡ 4 → end ≡ port.Stopped
      → CountRose wires.osc.faults_before wires.osc.faults_after ⊎ CountRose wires.midi.faults_before wires.midi.faults_after
      → GainedExactly out.told_before out.told_after [] → EndsDrill tempo status history rest end out wires
  -- out of memory, for a line or for what goes with it
  no_memory : status ≡ 3 → end ≡ port.Stopped → GainedExactly out.told_before out.told_after [] → EndsDrill tempo status history rest end out wires

-- playing called for this status
pub record PlayedThrough (tempo : Pace) (script : List (List ℕ)) (status : ℕ) (history : List Entry) (ends : List Ending) (out : Account ℕ)
    (wires : WireAccounts) : Type 0 where
  -- the history is legal
  pub legal : IsLegal history
  -- the script's lines were played: all, or after a fault or out of memory the first ones
  pub lines : List (List ℕ)
  pub rest : List (List ℕ)
  pub parts : script ≡ lines ++ rest
  -- each of them has its one answer, in order, and none is answered that there is no memory
  pub answers : IsPlayed tempo lines history
  -- the packets sent to each wire are the history's, or after a fault a front of them that has at least those before its last tick or finish
  pub packets : Sends (is_fault status) tempo history wires
  -- the script's port ended by its cause, the status has its cause, and the output gained the end line alone
  pub end : PortEnd
  pub ended : EndsDrill tempo status history rest end out wires
  -- this port is the only one and has the number 0
  pub one_port : ends ≡ record { port = 0; end = end } ∷ []
  -- no count of faults fell
  pub out_count : out.faults_before ≤ out.faults_after
  pub wire_counts : KeepsWires wires

pub record Drilled (start count status : ℕ) (history : List Entry) (ends : List Ending) (out log : Account ℕ) (wires : WireAccounts) : Type 0 where
  pub playing : ℕ
  pub performed : PlayedThrough usual_pace (drill_lines start count) playing history ends out wires
  -- the log gained the text of the tempo, the history and the port's end, in every status
  pub logged : Logs (log_text (record { tempo = usual_pace; history = history; ends = ends })) playing status log
  pub log_count : log.faults_before ≤ log.faults_after
