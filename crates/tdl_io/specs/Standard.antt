-- A source over a reader, and a sink over a writer.
use Rattle.std.specs.Prelude.{◌≡◌, ℕ, List, ◌++◌, Option}
use Rattle.std.specs.Io.KnownBytes.{Appends}
use Rattle.tdl_io.specs.declared.standard.StdSink.{StdSink}
use Rattle.tdl_io.specs.declared.standard.StdSource.{StdSource}

-- how many faults a source had
abbrev pub source_fault_count : {R : Type 0} → StdSource R → ℕ
source_fault_count source = source.faults

-- what it reads from
abbrev pub reader_of : {R : Type 0} → StdSource R → R
reader_of source = source.reader.device.reader

-- how many faults a sink had
abbrev pub fault_count : {W : Type 0} → StdSink W → ℕ
fault_count sink = sink.faults

-- what it writes to
abbrev pub writer_of : {W : Type 0} → StdSink W → W
writer_of sink = sink.writer.device.writer

-- the front of the piece was written, and the rest was not
pub record WroteUpTo (old new : Option (List ℕ)) (piece rest : List ℕ) : Type 0 where
  pub front : List ℕ
  pub parts : piece ≡ front ++ rest
  pub written : Appends old new front

-- a front of the piece was written, which may be none of it or all
abbrev pub WroteFront : Option (List ℕ) → Option (List ℕ) → List ℕ → Type 0
WroteFront old new piece = (rest : List ℕ) × WroteUpTo old new piece rest
