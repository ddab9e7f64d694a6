-- A wire over UDP.
use Rattle.std.specs.Prelude.{ℕ}
use Rattle.tdl_io.specs.declared.udp.UdpWire.{UdpWire}

-- how many faults there were
abbrev pub wire_fault_count : UdpWire → ℕ
wire_fault_count wire = wire.faults
