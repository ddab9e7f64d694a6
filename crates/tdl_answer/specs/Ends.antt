-- How the ports of a run ended, and its log.
--     PortsEnd      each port, from a number on, ended as a relation says
--     AnyHasFailed  a put or a send failed
--     Logs          what the log gained, and what that makes of the status
use Rattle.std.specs.Prelude.{◌≡◌, ℕ, ◌+◌, ◌⊎◌, ◌==◌, if◌then◌else◌, List, [], ◌∷◌}
use Rattle.tdl_io.specs.Told.{GainedExactly, GainedPrefix}
use Rattle.tdl_io.specs.Faults.{CountRose}
use Rattle.tdl_log.specs.declared.ends.Ending.{Ending}
use Rattle.tdl_log.specs.declared.ends.PortEnd.{PortEnd}
use Rattle.tdl_answer.specs.Account.{Account, WireAccounts}

-- of each port a relation speaks, by its number, by what is known of it, and by its end
abbrev pub PortsEnd : {P : Type 0} → (ℕ → P → PortEnd → Type 0) → ℕ → List P → List Ending → Type 0
PortsEnd Ended number [] [] = Unit {0}
PortsEnd Ended number (port ∷ ports) (ending ∷ endings) =
    (ending.port ≡ number) × Ended number port ending.end × PortsEnd Ended (number + 1) ports endings
PortsEnd Ended number [] (ending ∷ endings) = ⊥
PortsEnd Ended number (port ∷ ports) [] = ⊥

-- a put into the output failed, or a send to a wire
abbrev pub AnyHasFailed : Account ℕ → WireAccounts → Type 0
AnyHasFailed out wires =
    CountRose out.faults_before out.faults_after
    ⊎ (CountRose wires.osc.faults_before wires.osc.faults_after ⊎ CountRose wires.midi.faults_before wires.midi.faults_after)

-- the log gained its text, and the status is that of playing; or a put into it failed after a front, and a run that would have had status 0 has 7
pub data Logs (text : List ℕ) (playing status : ℕ) (log : Account ℕ) : Type 0 where
  whole : status ≡ playing → GainedExactly log.told_before log.told_after text → Logs text playing status log
  part : status ≡ (if playing == 0 then 7 else playing) → CountRose log.faults_before log.faults_after
      → GainedPrefix log.told_before log.told_after text → Logs text playing status log
