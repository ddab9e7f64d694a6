-- A wire that puts the bytes of its packets into a sink.
use Rattle.std.specs.Prelude.{ℕ, ◌<◌}
use Rattle.tdl_io.specs.declared.plain.Plain.{Plain}

-- how many faults there were
abbrev pub plain_fault_count : {K : Type 0} → Plain K → ℕ
plain_fault_count wire = wire.faults

-- where its packets go
abbrev pub sink_of : {K : Type 0} → Plain K → K
sink_of wire = wire.sink

-- a send failed, and each later one fails too
abbrev pub HasFailed : {K : Type 0} → Plain K → Type 0
HasFailed wire = 0 < wire.faults
