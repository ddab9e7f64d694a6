-- How far the lines of a port were served, from its start on.
--     Serving         the lines that a reader gave were answered, and their replies were put
--     port_of_halt    how the port ends where its loop halts
use Rattle.std.specs.Prelude.{ℕ, ◌≤◌, List}
use Rattle.tdl_io.specs.Told.{GainedExactly}
use Rattle.tdl_lines.specs.Reading.{Reading}
use Rattle.tdl_tempo.specs.Tempo.{Pace}
use Rattle.tdl_score.specs.declared.histories.Entry.{Entry}
use Rattle.tdl_log.specs.declared.ends.PortEnd.{PortEnd}
use Rattle.tdl_log.specs.declared.ends.PortEnd.TheVariants as port
use Rattle.tdl_answer.specs.Account.{Account}
use Rattle.tdl_answer.specs.EndLine.{one_after_another}
use Rattle.tdl_answer.specs.inside.Taking.{HasTaken}
use Rattle.tdl_perform.specs.declared.lines.Halt.{Halt}
use Rattle.tdl_perform.specs.declared.lines.Halt.TheVariants.{Memory, Put}
use Rattle.tdl_perform.specs.Serves.{Serves}

pub record Serving (tempo : Pace) (who : ℕ) (reading : Reading) (seen : List Entry) (source sink : Account ℕ) : Type 0 where
  pub took : HasTaken reading source
  pub replies : List (List ℕ)
  pub serves : Serves tempo who took.given replies seen
  pub put : GainedExactly sink.told_before sink.told_after (one_after_another replies)
  pub kept : sink.faults_before ≤ sink.faults_after

abbrev pub port_of_halt : Halt → PortEnd
port_of_halt Memory = port.Memory
port_of_halt Put = port.Fault
