-- Why a run of `play` stops, and how it ends: its status, and the end of its port.
use Rattle.std.specs.Prelude.{ℕ, Result, Ok, Err}
use Rattle.tdl_lines.specs.declared.faults.ReadFault.{ReadFault}
use Rattle.tdl_lines.specs.declared.faults.ReadFault.TheVariants.{NoMemory, Failed}
use Rattle.tdl_log.specs.declared.ends.PortEnd.{PortEnd}
use Rattle.tdl_log.specs.declared.ends.PortEnd.TheVariants as port
use Rattle.tdl_app.specs.declared.stops.Stop.{Stop}
use Rattle.tdl_app.specs.declared.stops.Stop.TheVariants.{Memory, Fault, Input}
use Rattle.tdl_app.specs.declared.play.End.{End}
use Rattle.tdl_app.specs.declared.play.End.TheVariants as end

abbrev pub stop_of_fault : ReadFault → Stop
stop_of_fault NoMemory = Memory
stop_of_fault Failed = Input

abbrev pub status_of_end : End → ℕ
status_of_end end.Finish = 0
status_of_end end.Input = 0
status_of_end end.Spent = 6

abbrev pub port_of_end : End → PortEnd
port_of_end end.Finish = port.Finish
port_of_end end.Input = port.Eof
port_of_end end.Spent = port.Spent

abbrev pub status_of_stop : Stop → ℕ
status_of_stop Memory = 3
status_of_stop Fault = 4
status_of_stop Input = 5

-- of a script that was not answered to its end
abbrev pub port_of_stop : Stop → PortEnd
port_of_stop Memory = port.Stopped
port_of_stop Fault = port.Stopped
port_of_stop Input = port.Fault

-- the status that playing calls for
abbrev pub status_of : Result End Stop → ℕ
status_of (Ok end) = status_of_end end
status_of (Err stop) = status_of_stop stop
