-- Packets that stand in ranges of the bytes of all.
use Rattle.std.specs.Prelude.{ℕ, ◌≤◌, List, map, length, All, slice_range}
use Rattle.tdl_io.specs.declared.memory.wire.PacketRange.{PacketRange}

-- the packets that stand in these ranges
abbrev pub packets_of : List ℕ → List PacketRange → List (List ℕ)
packets_of bytes spans = map (λ span. slice_range bytes span.start span.end) spans

-- each of these ranges lies in the bytes
abbrev pub AllStandIn : List ℕ → List PacketRange → Type 0
AllStandIn bytes spans = All (λ span. (span.start ≤ span.end) × (span.end ≤ length bytes)) spans
