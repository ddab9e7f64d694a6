-- Devices in memory: what they hold, sent or have left, and which calls fail.
use Rattle.std.specs.Prelude.{◌≡◌, ℕ, ◌-◌, ◌<◌, ◌⊎◌, min, Bool, true, nat_lt, ◌&&◌, List, [], ◌∷◌, ◌++◌, length, drop, Contains, Option, None, Some}
use Rattle.tdl_io.specs.Faults.{one_more}

-- a sink in memory, as contracts see it
pub record SinkState : Type 0 where
  -- the bytes that it took
  pub held : List ℕ
  -- how many more bytes fit
  pub room : ℕ
  -- how many calls were made
  pub calls : ℕ
  -- the numbers of the calls that fail, counted from 1
  pub fails : List ℕ
  -- how many calls failed
  pub faults : ℕ

-- before the first call
abbrev pub empty_sink : ℕ → List ℕ → SinkState
empty_sink room fails = record { held = []; room = room; calls = 0; fails = fails; faults = 0 }

-- the next call fails with this piece: its number is listed, or the piece does not fit
abbrev pub Refuses : SinkState → List ℕ → Type 0
Refuses sink piece = Contains sink.fails (one_more sink.calls) ⊎ (sink.room < length piece)

-- after a call that took the piece
abbrev pub sink_with : SinkState → List ℕ → SinkState
sink_with sink piece = record {
  held = sink.held ++ piece;
  room = sink.room - length piece;
  calls = one_more sink.calls;
  fails = sink.fails;
  faults = sink.faults;
}

-- after a call that failed: nothing of its piece is held
abbrev pub sink_without : SinkState → SinkState
sink_without sink = record {
  held = sink.held;
  room = sink.room;
  calls = one_more sink.calls;
  fails = sink.fails;
  faults = one_more sink.faults;
}

-- a number, or the bound where that is smaller
abbrev pub at_most : Option ℕ → ℕ → ℕ
at_most None number = number
at_most (Some most) number = min most number

-- a source in memory, as contracts see it
pub record SourceState : Type 0 where
  -- the bytes that are left
  pub left : List ℕ
  -- how many bytes one call gives at most, where that is bounded
  pub most : Option ℕ
  -- how many calls were made
  pub calls : ℕ
  -- the numbers of the calls that fail, counted from 1
  pub fails : List ℕ
  -- how many calls failed
  pub faults : ℕ

-- before the first call
abbrev pub full_source : List ℕ → List ℕ → SourceState
full_source bytes fails = record { left = bytes; most = None; calls = 0; fails = fails; faults = 0 }

-- the same of one whose calls give so many bytes at most
abbrev pub source_in_pieces : List ℕ → ℕ → List ℕ → SourceState
source_in_pieces bytes most fails = record { left = bytes; most = Some most; calls = 0; fails = fails; faults = 0 }

-- how many bytes the next call gives into a buffer for so many, if it does not fail
abbrev pub next_size : SourceState → ℕ → ℕ
next_size source room = at_most source.most (min (length source.left) room)

-- the next call fails: its number is listed
abbrev pub FailsNext : SourceState → Type 0
FailsNext source = Contains source.fails (one_more source.calls)

-- after a call that gave so many bytes
abbrev pub source_after : SourceState → ℕ → SourceState
source_after source count = record {
  left = drop count source.left;
  most = source.most;
  calls = one_more source.calls;
  fails = source.fails;
  faults = source.faults;
}

-- after a call that failed: it took nothing
abbrev pub source_failed : SourceState → SourceState
source_failed source = record {
  left = source.left;
  most = source.most;
  calls = one_more source.calls;
  fails = source.fails;
  faults = one_more source.faults;
}

-- a wire in memory, as contracts see it
pub record WireState : Type 0 where
  -- the packets that it sent
  pub sent : List (List ℕ)
  -- how many more packets fit
  pub packet_room : ℕ
  -- how many more bytes fit
  pub byte_room : ℕ
  -- how many calls were made
  pub calls : ℕ
  -- the numbers of the calls that fail, counted from 1
  pub fails : List ℕ
  -- how many calls failed
  pub faults : ℕ

-- before the first call
abbrev pub empty_wire : ℕ → ℕ → List ℕ → WireState
empty_wire packets bytes fails = record {
  sent = [];
  packet_room = packets;
  byte_room = bytes;
  calls = 0;
  fails = fails;
  faults = 0;
}

-- the next call fails with this packet: its number is listed, there is no room for one more packet, or the packet does not fit
abbrev pub RefusesPacket : WireState → List ℕ → Type 0
RefusesPacket wire packet = Contains wire.fails (one_more wire.calls) ⊎ ((wire.packet_room ≡ 0) ⊎ (wire.byte_room < length packet))

-- after a call that sent the packet
abbrev pub wire_with : WireState → List ℕ → WireState
wire_with wire packet = record {
  sent = wire.sent ++ packet ∷ [];
  packet_room = wire.packet_room - 1;
  byte_room = wire.byte_room - length packet;
  calls = one_more wire.calls;
  fails = wire.fails;
  faults = wire.faults;
}

-- after a call that failed: its packet is not kept
abbrev pub wire_without : WireState → WireState
wire_without wire = record {
  sent = wire.sent;
  packet_room = wire.packet_room;
  byte_room = wire.byte_room;
  calls = one_more wire.calls;
  fails = wire.fails;
  faults = one_more wire.faults;
}

-- a clock in memory, as contracts see it
pub record ClockState : Type 0 where
  -- the last beat that it gave, at first 0
  pub last : ℕ
  -- the beats that are left
  pub left : List ℕ

-- before the first beat
abbrev pub full_clock : List ℕ → ClockState
full_clock beats = record { last = 0; left = beats }

-- these beats rise, and the first is above the last one before them
abbrev pub rise_above : ℕ → List ℕ → Bool
rise_above last [] = true
rise_above last (beat ∷ beats) = nat_lt last beat && rise_above beat beats
