-- A sink and a wire that keep only how much they took.
use Rattle.std.specs.Prelude.{ℕ}
use Rattle.tdl_io.specs.declared.count.CountSink.{CountSink}
use Rattle.tdl_io.specs.declared.count.CountWire.{CountWire}

-- how many bytes it took
abbrev pub bytes_counted : CountSink → ℕ
bytes_counted sink = sink.bytes

-- how many packets it took
abbrev pub packets_counted : CountWire → ℕ
packets_counted wire = wire.packets
