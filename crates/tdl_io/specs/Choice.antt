-- A choice of devices means what the chosen one does.
use Rattle.std.specs.Prelude.{ℕ, ◌*◌, List, Option, None, Some, Bool, true, nat_le, ⊤}
use Rattle.tdl_io.specs.Plain.{plain_fault_count, sink_of, HasFailed}
use Rattle.tdl_io.specs.Sleep.{beat_units, beats_given, left_after, most_beats}
use Rattle.tdl_io.specs.Standard.{fault_count, source_fault_count, reader_of, writer_of}
use Rattle.tdl_io.specs.Udp.{wire_fault_count}
use Rattle.tdl_io.specs.declared.choice.AnyClock.{AnyClock}
use Rattle.tdl_io.specs.declared.choice.AnyClock.TheVariants as OfClock
use Rattle.tdl_io.specs.declared.choice.AnySink.{AnySink}
use Rattle.tdl_io.specs.declared.choice.AnySink.TheVariants as OfSink
use Rattle.tdl_io.specs.declared.choice.AnySource.{AnySource}
use Rattle.tdl_io.specs.declared.choice.AnySource.TheVariants as OfSource
use Rattle.tdl_io.specs.declared.choice.AnyWire.{AnyWire}
use Rattle.tdl_io.specs.declared.choice.AnyWire.TheVariants as OfWire

-- the faults of the chosen source
abbrev pub source_faults : {R S : Type 0} → AnySource R S → ℕ
source_faults (OfSource.Standard source) = source_fault_count source
source_faults (OfSource.Stream source) = source_fault_count source
source_faults (OfSource.Absent source) = 0

-- what the reader of the chosen source has left, by what each kind of reader tells
abbrev pub source_remaining : {R S : Type 0} → (R → Option (List ℕ)) → (S → Option (List ℕ)) → AnySource R S → Option (List ℕ)
source_remaining standard stream (OfSource.Standard source) = standard (reader_of source)
source_remaining standard stream (OfSource.Stream source) = stream (reader_of source)
source_remaining standard stream (OfSource.Absent source) = None

-- no source was chosen
abbrev pub IsAbsentSource : {R S : Type 0} → AnySource R S → Type 0
IsAbsentSource (OfSource.Standard source) = ⊥
IsAbsentSource (OfSource.Stream source) = ⊥
IsAbsentSource (OfSource.Absent source) = ⊤

-- the faults of the chosen sink
abbrev pub sink_faults : {W F S : Type 0} → AnySink W F S → ℕ
sink_faults (OfSink.Standard sink) = fault_count sink
sink_faults (OfSink.File sink) = fault_count sink
sink_faults (OfSink.Stream sink) = fault_count sink
sink_faults (OfSink.Absent sink) = 0

-- what the writer of the chosen sink tells, by what each kind of writer tells
abbrev pub sink_contents : {W F S : Type 0} → (W → Option (List ℕ)) → (F → Option (List ℕ)) → (S → Option (List ℕ)) → AnySink W F S → Option (List ℕ)
sink_contents standard file stream (OfSink.Standard sink) = standard (writer_of sink)
sink_contents standard file stream (OfSink.File sink) = file (writer_of sink)
sink_contents standard file stream (OfSink.Stream sink) = stream (writer_of sink)
sink_contents standard file stream (OfSink.Absent sink) = None

-- no sink was chosen
abbrev pub IsAbsentSink : {W F S : Type 0} → AnySink W F S → Type 0
IsAbsentSink (OfSink.Standard sink) = ⊥
IsAbsentSink (OfSink.File sink) = ⊥
IsAbsentSink (OfSink.Stream sink) = ⊥
IsAbsentSink (OfSink.Absent sink) = ⊤

-- the faults of the chosen wire
abbrev pub wire_faults : {W : Type 0} → AnyWire W → ℕ
wire_faults (OfWire.Udp wire) = wire_fault_count wire
wire_faults (OfWire.Plain wire) = plain_fault_count wire
wire_faults (OfWire.Absent wire) = 0

-- what the writer of the chosen wire tells, where it has one
abbrev pub wire_contents : {W : Type 0} → (W → Option (List ℕ)) → AnyWire W → Option (List ℕ)
wire_contents contents (OfWire.Udp wire) = None
wire_contents contents (OfWire.Plain wire) = contents (writer_of (sink_of wire))
wire_contents contents (OfWire.Absent wire) = None

-- no wire was chosen
abbrev pub IsAbsentWire : {W : Type 0} → AnyWire W → Type 0
IsAbsentWire (OfWire.Udp wire) = ⊥
IsAbsentWire (OfWire.Plain wire) = ⊥
IsAbsentWire (OfWire.Absent wire) = ⊤

-- a wire of bytes alone was chosen
abbrev pub IsPlainWire : {W : Type 0} → AnyWire W → Type 0
IsPlainWire (OfWire.Udp wire) = ⊥
IsPlainWire (OfWire.Plain wire) = ⊤
IsPlainWire (OfWire.Absent wire) = ⊥

-- it was chosen, and a send failed
abbrev pub HasFailedWire : {W : Type 0} → AnyWire W → Type 0
HasFailedWire (OfWire.Udp wire) = ⊥
HasFailedWire (OfWire.Plain wire) = HasFailed wire
HasFailedWire (OfWire.Absent wire) = ⊥

-- the last beat that the chosen clock gave
abbrev pub clock_last : {T : Type 0} → AnyClock T → ℕ
clock_last (OfClock.Sleep clock) = beat_units * beats_given clock
clock_last (OfClock.Absent clock) = 0

-- the beats that it has left, where it tells them
abbrev pub clock_beats : {T : Type 0} → AnyClock T → Option (List ℕ)
clock_beats (OfClock.Sleep clock) = Some (left_after (beats_given clock))
clock_beats (OfClock.Absent clock) = None

-- whether it has ended
abbrev pub clock_ended : {T : Type 0} → AnyClock T → Bool
clock_ended (OfClock.Sleep clock) = nat_le most_beats (beats_given clock)
clock_ended (OfClock.Absent clock) = true
