-- What a run of `serve` does, a sentence a field.
--     EndsServed      the output, the status and how the beats ended
--     ServedThrough   performers played beside the clock
--     Unstarted       memory ran out before any of them began
--     Served          the run as a whole, with its log
use Rattle.std.specs.Prelude.{◌≡◌, ℕ, zero, suc, ◌+◌, ◌≤◌, ◌⊎◌, List, [], ◌∷◌, length}
use Rattle.tdl_io.specs.Told.{GainedExactly}
use Rattle.tdl_io.specs.Faults.{CountRose}
use Rattle.tdl_tempo.specs.Tempo.{Pace}
use Rattle.tdl_score.specs.declared.histories.Entry.{Entry}
use Rattle.tdl_core.specs.Said.{IsLegal}
use Rattle.tdl_log.specs.declared.ends.Ending.{Ending}
use Rattle.tdl_log.specs.declared.ends.PortEnd.TheVariants.{Stopped}
use Rattle.tdl_log.specs.LogText.{log_text}
use Rattle.tdl_answer.specs.Account.{Account}
use Rattle.tdl_answer.specs.EndLine.{EndPart, PrintsEnd}
use Rattle.tdl_answer.specs.Ends.{PortsEnd, Logs}
use Rattle.tdl_perform.specs.Port.{ServesPort}
use Rattle.tdl_beats.specs.Beaten.{Beaten}
use Rattle.tdl_beats.specs.declared.runs.BeatEnd.{BeatEnd}
use Rattle.tdl_beats.specs.declared.runs.BeatEnd.TheVariants as beat
use Rattle.tdl_serve.specs.PortAccounts.{PortAccount}
use Rattle.tdl_app.specs.declared.devices.Outside.{Outside}
use Rattle.tdl_app.specs.Accounts.{Accounts}

pub data EndsServed (tempo : Pace) (history : List Entry) (end : BeatEnd) (status : ℕ) (out : Account ℕ) : Type 0 where
  -- the run has its finish, and the output gained the end line
  done : end ≡ beat.Done → status ≡ 0 → (line : List ℕ) → PrintsEnd EndPart.whole tempo history line → GainedExactly out.told_before out.told_after line
      → EndsServed tempo history end status out
  -- the output failed at it
  out_failed : end ≡ beat.Done → status ≡ 4 → CountRose out.faults_before out.faults_after → (front : List ℕ) → PrintsEnd EndPart.part tempo history front
      → GainedExactly out.told_before out.told_after front → EndsServed tempo history end status out
  -- out of memory for it
  no_line : end ≡ beat.Done → status ≡ 3 → GainedExactly out.told_before out.told_after [] → EndsServed tempo history end status out
  -- a send failed
  wire_failed : end ≡ beat.Fault → status ≡ 4 → GainedExactly out.told_before out.told_after [] → EndsServed tempo history end status out
  -- out of memory for a tick
  no_tick : end ≡ beat.Memory → status ≡ 3 → GainedExactly out.told_before out.told_after [] → EndsServed tempo history end status out

-- playing called for this status
pub record ServedThrough (tempo : Pace) (cycles status : ℕ) (history : List Entry) (ends : List Ending) (told : Accounts) : Type 0 where
  -- the history is legal
  pub legal : IsLegal history
  -- each line of each port has its one answer, in order, as the performer of its number, and the port ended by its cause
  pub ports : PortsEnd (λ number (port : PortAccount) end. ServesPort tempo number history port.source port.sink end) 1 told.ports ends
  -- the number 0 did the ticks of the beats and then the finish, or after a fault or out of memory the first of them, and what goes
  -- with them was sent
  pub end : BeatEnd
  pub beaten : Beaten tempo cycles history told.beats told.wires end
  -- the output gained the end line, and the status has its cause
  pub printed : EndsServed tempo history end status told.out
  pub out_count : told.out.faults_before ≤ told.out.faults_after

-- so many ports from a number on
abbrev pub all_stopped : ℕ → ℕ → List Ending
all_stopped number zero = []
all_stopped number (suc count) = record { port = number; end = Stopped } ∷ all_stopped (number + 1) count

-- memory ran out before any part began
pub record Unstarted {S K W C : Type 0} (status : ℕ) (history : List Entry) (ends : List Ending) (before after : Outside S K W C) : Type 0 where
  pub memory : status ≡ 3
  pub nothing : history ≡ []
  pub stopped : ends ≡ all_stopped 1 (length before.ports.items)
  pub out : after.out ≡ before.out
  pub osc : after.osc ≡ before.osc
  pub midi : after.midi ≡ before.midi
  pub clock : after.clock ≡ before.clock
  pub ports : after.ports ≡ before.ports

pub record Served {S K W C : Type 0} (tempo : Pace) (cycles status : ℕ) (history : List Entry) (ends : List Ending) (told : Accounts)
    (before after : Outside S K W C) : Type 0 where
  pub playing : ℕ
  pub performed : ServedThrough tempo cycles playing history ends told ⊎ Unstarted playing history ends before after
  -- the log gained the text of the tempo, the history and the ports' ends, in every status
  pub logged : Logs (log_text (record { tempo = tempo; history = history; ends = ends })) playing status told.log
  pub log_count : told.log.faults_before ≤ told.log.faults_after
  -- there are as many ports as before, and the input is left alone
  pub as_many : length after.ports.items ≡ length before.ports.items
  pub input : after.input ≡ before.input
