-- A wire that puts each packet into a sink after its length.
use Rattle.std.specs.Prelude.{◌⊎◌, ℕ, ◌==◌, ◌&&◌, if◌then◌else◌, List, Option, None}
use Rattle.tdl_io.specs.Frames.{frame_size, are_frames, packets_told}
use Rattle.tdl_io.specs.Plain.{plain_fault_count, sink_of, HasFailed}
use Rattle.tdl_io.specs.declared.framed.Framed.{Framed}
use Rattle.tdl_io.specs.declared.outside.Sink as OfSink

-- how many faults there were
abbrev pub framed_fault_count : {K : Type 0} {tells : OfSink.Ghosts K} → Framed K tells → ℕ
framed_fault_count wire = plain_fault_count wire.wire

-- where its packets go
abbrev pub framed_sink : {K : Type 0} {tells : OfSink.Ghosts K} → Framed K tells → K
framed_sink wire = sink_of wire.wire

-- a send failed, and each later one fails too
abbrev pub IsClosed : {K : Type 0} {tells : OfSink.Ghosts K} → Framed K tells → Type 0
IsClosed wire = HasFailed wire.wire

-- the packets that it tells, by what its sink tells: those whose frames the sink holds, as long as no send failed. Where the sink held
-- other bytes when the wire was made, it tells none, since those and later frames together may look like other frames
abbrev pub packets_sent : {K : Type 0} {tells : OfSink.Ghosts K} → Framed K tells → Option (List (List ℕ))
packets_sent {tells = tells} wire =
    if framed_fault_count wire == 0 && are_frames (tells.held wire.begun.value) then packets_told (tells.held (framed_sink wire)) else None

-- the sink took the length of the packet and then the packet, by what its kind knows of a put that took its piece
abbrev pub TookFrame : {K : Type 0} → (K → List ℕ → K → Type 0) → K → List ℕ → K → Type 0
TookFrame {K} took old packet new = (mid : K) × took old (frame_size packet) mid × took mid packet new

-- it failed at the length, or took that and failed at the packet
abbrev pub BrokeFrame : {K : Type 0} → (K → List ℕ → K → Type 0) → (K → List ℕ → K → Type 0) → K → List ℕ → K → Type 0
BrokeFrame {K} took broke old packet new =
    broke old (frame_size packet) new ⊎ ((mid : K) × took old (frame_size packet) mid × broke mid packet new)
